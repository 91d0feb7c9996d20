use Rattle.std.proofs.Common.{[], ap, refl, sym}
use Rattle.support.specs.declared.faults.refusal.Refusal.TheVariants as refusals
use Rattle.world.specs.Plan.{refuse}
use Rattle.expressions.specs.Details.{key_twice}
use Rattle.expressions.specs.Forms.{paired_by}
use Rattle.expressions.proofs.Evaluating.{given_as, given_give, given_none, given_refuse}
use Rattle.expressions.proofs.context.Context.pair.Goals as goal

pub returns-in_err-value-clause-gives : goal.returns-in_err-value-clause-gives
returns-in_err-value-clause-gives g c = λ files h. given_none h c.from_residual.ensures.1

pub returns-in-Ok-clause-gives : goal.returns-in-Ok-clause-gives
returns-in-Ok-clause-gives g c = λ files h.
    let is = c.in_ok-value.ensures in
    given_as (ap (paired_by c.args.line) (sym (rw c.in-Ok.is at is))) (given_give h refl)

pub returns-in-Err-Twice-clause-gives : goal.returns-in-Err-Twice-clause-gives
returns-in-Err-Twice-clause-gives g c = λ files h.
    let is = c.in_ok-value.ensures in
    given_as (ap (paired_by c.args.line) (sym (rw (c.in-Err-Twice.is, c.in-Err-Twice.field-0-is) at is)))
    (given_as (ap (λ k. refuse c.args.line refusals.Duplicate (key_twice k)) c.as_str.ensures.text) (given_refuse h c.refuse_key.ensures))

pub returns-in-Err-Refused-clause-gives : goal.returns-in-Err-Refused-clause-gives
returns-in-Err-Refused-clause-gives g c = λ files h.
    let is = c.in_ok-value.ensures in
    given_as (ap (paired_by c.args.line) (sym (rw (c.in-Err-Refused.is, c.in-Err-Refused.field-0-is) at is)))
    (given_as (ap (λ r. refuse c.args.line r []) c.of_operation.ensures) (given_refuse h c.refuse.ensures))
