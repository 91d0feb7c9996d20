use Rattle.std.proofs.Common.{ap, refl, sym, ◌∙◌}
use Rattle.arguments.specs.Refused.{answer_data}
use Rattle.world.specs.Plan.{refuse}
use Rattle.expressions.specs.Forms.{check_at_line}
use Rattle.expressions.proofs.Evaluating.{given_as, given_give, given_refuse}
use Rattle.expressions.proofs.context.Context.fit.Goals as goal

pub returns-in-Ok-clause-gives : goal.returns-in-Ok-clause-gives
returns-in-Ok-clause-gives g c = λ files h. given_as (ap (λ a. check_at_line c.args.line (answer_data a)) (sym c.in-Ok.is)) (given_give h refl)

pub returns-in-Err-clause-gives : goal.returns-in-Err-clause-gives
returns-in-Err-clause-gives g c = λ files h.
    given_as (ap (λ d. refuse {A = Unit {0}} c.args.line c.in-Err.refused.refusal d) c.as_str.ensures.value
    ∙ ap (λ a. check_at_line c.args.line (answer_data a)) (sym c.in-Err.is)) (given_refuse h c.refuse.ensures)
