use Rattle.std.proofs.Common.{List, ℕ, subst}
use Rattle.support.specs.declared.faults.refusal.Refusal.TheVariants as refusals
use Rattle.world.specs.Answering.{Refuses}
use Rattle.expressions.proofs.context.Context.refuse_unknown.Goals as goal

pub returns-clause-refuses : goal.returns-clause-refuses
returns-clause-refuses g c = λ within.
    subst (λ (name : List ℕ). Refuses (record { file = c.args.self.now.store.now.file; line = c.args.line; refusal = refusals.UndefinedName; detail = name }) c.refuse.result)
    (c.name-name.ensures within) c.refuse.ensures
