use Rattle.std.proofs.Common.{List, ℕ, ap, subst, ◌∙◌}
use Rattle.arguments.specs.Rules.{breach_message}
use Rattle.arguments.specs.declared.rule.Rule.TheVariants as rules
use Rattle.support.specs.declared.faults.refusal.Refusal.TheVariants as refusals
use Rattle.world.specs.Answering.{Refuses}
use Rattle.world.proofs.Ruling.{refuses_none}
use Rattle.expressions.specs.Contexts.{fault_on}
use Rattle.expressions.proofs.context.Context.refuse_name.Goals as goal

pub returns-in_err-detail-clause-refuses : goal.returns-in_err-detail-clause-refuses
returns-in_err-detail-clause-refuses g c = λ within. refuses_none _ _ c.from_residual.ensures.1

pub returns-clause-refuses : goal.returns-clause-refuses
returns-clause-refuses g c = λ within.
    subst (λ (d : List ℕ). Refuses (fault_on c.args.self.now c.args.line refusals.Arguments d) c.refuse.result)
    (c.as_str.ensures.value ∙ c.in_ok-detail.ensures ∙ ap (breach_message rules.IsSettable) (c.name-name.ensures within)) c.refuse.ensures
