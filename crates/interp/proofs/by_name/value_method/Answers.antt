use Rattle.std.proofs.Common.{List, Some, map, ap, refl}
use Rattle.arguments.specs.Arguments.{arguments_data}
use Rattle.values.specs.View.{data_of}
use Rattle.values.specs.declared.value.Value.{Value}
use Rattle.world.specs.Deed.{give, then}
use Rattle.world.specs.Fit.{fit}
use Rattle.world.proofs.Answering.{carries_as, carries_give, carries_stop, carries_then}
use Rattle.interp.specs.ByName.{method_answered, value_method}
use Rattle.interp.proofs.by_name.value_method.Goals as goal

pub returns-in_err-fit : goal.returns-in_err-fit
unfolding value_method
returns-in_err-fit g c =
    carries_stop (carries_as (ap (λ r. fit r (arguments_data c.args.arguments.now)) c.any_values.ensures) c.in_err-fit.ensures)
    c.from_residual.ensures.1

pub returns-in_err-value : goal.returns-in_err-value
unfolding value_method
returns-in_err-value g c =
    carries_then (carries_as (ap (λ r. fit r (arguments_data c.args.arguments.now)) c.any_values.ensures) c.in_ok-fit.ensures)
    (carries_as (ap (λ (xs : List Value). then (method_answered (data_of c.args.receiver.now) c.args.name.now (map data_of xs)) (λ e. give (Some e))) c.deref.ensures.value)
    (carries_stop c.in_err-value.ensures c.from_residual-in_err-value.ensures.1))

pub returns : goal.returns
unfolding value_method
returns g c =
    carries_then (carries_as (ap (λ r. fit r (arguments_data c.args.arguments.now)) c.any_values.ensures) c.in_ok-fit.ensures)
    (carries_as (ap (λ (xs : List Value). then (method_answered (data_of c.args.receiver.now) c.args.name.now (map data_of xs)) (λ e. give (Some e))) c.deref.ensures.value)
    (carries_then {x = c.in_ok-value.value} c.in_ok-value.ensures (carries_give refl)))
