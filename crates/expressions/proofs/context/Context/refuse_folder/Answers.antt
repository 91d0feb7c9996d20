use Rattle.std.proofs.Common.{◌∙◌, List, ℕ, subst}
use Rattle.support.specs.declared.faults.refusal.Refusal.TheVariants as refusals
use Rattle.world.specs.Answering.{Refuses}
use Rattle.world.proofs.Ruling.{refuses_none}
use Rattle.expressions.specs.Contexts.{fault_on}
use Rattle.expressions.proofs.context.Context.refuse_folder.Goals as goal

pub returns-in_err-detail : goal.returns-in_err-detail
returns-in_err-detail g c = refuses_none _ _ c.from_residual.ensures.1

pub returns : goal.returns
returns g c =
    subst (λ (d : List ℕ). Refuses (fault_on c.args.self.now c.args.self.now.store.now.line refusals.Subdir d) c.refuse.result)
    (c.as_str.ensures.value ∙ c.in_ok-detail.ensures)
    (subst (λ (l : ℕ). Refuses (fault_on c.args.self.now l refusals.Subdir c.as_str.result.now) c.refuse.result) c.line.ensures c.refuse.ensures)
