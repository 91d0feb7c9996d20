use Rattle.std.proofs.Common.{Some, ap}
use Rattle.language_calls.specs.Disablers.{disabler_value}
use Rattle.world.proofs.Answering.{carries_none, carries_give}
use Rattle.language_calls.proofs.disablers.disabler.Goals as goal

pub returns-in_err-of_object : goal.returns-in_err-of_object
returns-in_err-of_object g c = carries_none c.from_residual.ensures.1

pub returns : goal.returns
unfolding disabler_value
returns g c = carries_give (ap Some c.in_ok-of_object.ensures)
