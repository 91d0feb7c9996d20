use Rattle.std.proofs.Common.{ap, map, refl, sym}
use Rattle.values.specs.View.{data_of}
use Rattle.world.specs.Deed.{refuse}
use Rattle.world.specs.Operation.{of_operation}
use Rattle.world.proofs.Answering.{carries_as, carries_give, carries_none, carries_refuse}
use Rattle.expressions.specs.Details.{method_detail}
use Rattle.interp.specs.ByName.{answered_with}
use Rattle.interp.proofs.by_name.method_answered.Goals as goal

pub returns-in_err-value : goal.returns-in_err-value
returns-in_err-value g c = carries_none c.from_residual.ensures.1

pub returns-in_err-detail-in-Err : goal.returns-in_err-detail-in-Err
returns-in_err-detail-in-Err g c = carries_none c.from_residual-in_err-detail-in-Err.ensures.1

pub returns-in-Ok : goal.returns-in-Ok
returns-in-Ok g c =
    let is = c.in_ok-value.ensures in
    let detail = method_detail (data_of c.args.receiver.now) c.args.name.now (map data_of c.args.values.now) in
    carries_as (ap (answered_with detail) (sym (rw c.in-Ok.is at is))) (carries_give refl)

pub returns-in_ok-detail-in-Err : goal.returns-in_ok-detail-in-Err
returns-in_ok-detail-in-Err g c =
    let is = c.in_ok-value.ensures in
    let detail = method_detail (data_of c.args.receiver.now) c.args.name.now (map data_of c.args.values.now) in
    carries_as (ap (answered_with detail) (sym (rw c.in-Err.is at is)))
    (carries_as (ap (refuse (of_operation c.in-Err.refusal)) c.in_ok-detail-in-Err.ensures)
    (carries_as (ap (refuse (of_operation c.in-Err.refusal)) c.as_str.ensures.value)
    (carries_as (ap (λ r. refuse r c.as_str.result.now) c.of_operation.ensures) (carries_refuse c.refuse.ensures))))
