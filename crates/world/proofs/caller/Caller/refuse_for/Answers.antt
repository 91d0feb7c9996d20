use Rattle.std.proofs.Common.{◌∙◌, List, ℕ, subst}
use Rattle.world.specs.Answering.{Refuses}
use Rattle.world.specs.Store.{world_of}
use Rattle.world.specs.World.{fault_here}
use Rattle.world.proofs.Ruling.{refuses_none}
use Rattle.world.proofs.caller.Caller.refuse_for.Goals as goal

pub returns-in_err-detail : goal.returns-in_err-detail
returns-in_err-detail g c = refuses_none _ _ c.from_residual.ensures.1

pub returns : goal.returns
returns g c =
    subst (λ (d : List ℕ). Refuses (fault_here (world_of c.args.self.now.store.now) c.args.refusal d) c.refuse.result)
    (c.as_str.ensures.value ∙ c.in_ok-detail.ensures) c.refuse.ensures
