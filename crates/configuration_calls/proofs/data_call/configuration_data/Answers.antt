use Rattle.std.proofs.Common.{Some, ap}
use Rattle.world.proofs.Answering.{carries_give, carries_none, carries_stop, carries_then}
use Rattle.configuration_calls.specs.ConfigurationData.{configuration_data}
use Rattle.configuration_calls.proofs.data_call.configuration_data.Goals as goal

pub returns-in_err-values : goal.returns-in_err-values
unfolding configuration_data
returns-in_err-values g c = carries_stop c.in_err-values.ensures c.from_residual.ensures.1

pub returns-in_err-number : goal.returns-in_err-number
unfolding configuration_data
returns-in_err-number g c = carries_then c.in_ok-values.ensures (carries_stop c.in_err-number.ensures c.from_residual-in_err-number.ensures.1)

pub returns-in_err-value : goal.returns-in_err-value
unfolding configuration_data
returns-in_err-value g c = carries_then c.in_ok-values.ensures (carries_then {x = c.in_ok-number.number} c.in_ok-number.ensures (carries_none c.from_residual-in_err-value.ensures.1))

pub returns : goal.returns
unfolding configuration_data
returns g c =
    carries_then c.in_ok-values.ensures (carries_then {x = c.in_ok-number.number} c.in_ok-number.ensures (carries_give (ap Some c.in_ok-value.ensures)))
