use Rattle.std.proofs.Common.{[], ap, refl, sym}
use Rattle.world.specs.Plan.{answer_at_line, refuse}
use Rattle.expressions.proofs.Evaluating.{given_as, given_give, given_refuse, given_same}
use Rattle.expressions.proofs.context.Context.answer.Goals as goal

pub returns-in-Ok-clause-gives : goal.returns-in-Ok-clause-gives
returns-in-Ok-clause-gives g c = λ given is files h. given_as (ap (answer_at_line c.args.line) (sym (rw c.in-Ok.is at is))) (given_give h refl)

pub returns-in_err-refuse-in-Err-clause-gives : goal.returns-in_err-refuse-in-Err-clause-gives
returns-in_err-refuse-in-Err-clause-gives g c = λ given is files h.
    given_as (ap (answer_at_line c.args.line) (sym (rw c.in-Err.is at is))) (given_as (ap (λ r. refuse c.args.line r []) c.of_operation.ensures) (given_same (given_refuse h c.in_err-refuse-in-Err.ensures) c.from_residual.ensures.1))

pub returns-in_ok-refuse-in-Err-clause-gives : goal.returns-in_ok-refuse-in-Err-clause-gives
returns-in_ok-refuse-in-Err-clause-gives g c = λ given is files h.
    given_as (ap (answer_at_line c.args.line) (sym (rw c.in-Err.is at is))) (given_as (ap (λ r. refuse c.args.line r []) c.of_operation.ensures) (given_refuse h c.in_ok-refuse-in-Err.ensures))
