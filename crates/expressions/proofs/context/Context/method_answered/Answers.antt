use Rattle.std.proofs.Common.{ap, map, refl, sym, ◌∙◌}
use Rattle.values.specs.View.{data_of}
use Rattle.world.specs.Operation.{of_operation}
use Rattle.world.specs.Plan.{refuse}
use Rattle.expressions.specs.Details.{method_detail}
use Rattle.expressions.specs.Forms.{answered_with}
use Rattle.expressions.proofs.Evaluating.{given_as, given_give, given_none, given_refuse}
use Rattle.expressions.proofs.context.Context.method_answered.Goals as goal

pub returns-in_err-value-clause-gives : goal.returns-in_err-value-clause-gives
returns-in_err-value-clause-gives g c = λ files h. given_none h c.from_residual.ensures.1

pub returns-in_err-detail-in-Err-clause-gives : goal.returns-in_err-detail-in-Err-clause-gives
returns-in_err-detail-in-Err-clause-gives g c = λ files h. given_none h c.from_residual-in_err-detail-in-Err.ensures.1

pub returns-in-Ok-clause-gives : goal.returns-in-Ok-clause-gives
returns-in-Ok-clause-gives g c = λ files h.
    let is = c.in_ok-value.ensures in
    let detail = method_detail (data_of c.args.whole.now) c.args.name.now (map data_of c.args.values.now) in
    given_as (ap (answered_with c.args.line detail) (sym (rw c.in-Ok.is at is))) (given_give h refl)

pub returns-in_ok-detail-in-Err-clause-gives : goal.returns-in_ok-detail-in-Err-clause-gives
returns-in_ok-detail-in-Err-clause-gives g c = λ files h.
    let is = c.in_ok-value.ensures in
    let detail = method_detail (data_of c.args.whole.now) c.args.name.now (map data_of c.args.values.now) in
    given_as (ap (answered_with c.args.line detail) (sym (rw c.in-Err.is at is)))
    (given_as (ap (λ r. refuse c.args.line r c.as_str.result.now) c.of_operation.ensures
    ∙ ap (refuse c.args.line (of_operation c.in-Err.refusal)) (c.as_str.ensures.value ∙ c.in_ok-detail-in-Err.ensures)) (given_refuse h c.refuse.ensures))
