use Rattle.std.proofs.Common.{Some, ap}
use Rattle.language_calls.specs.Variables.{predefined_variable}
use Rattle.world.proofs.Answering.{carries_give, carries_none}
use Rattle.language_calls.proofs.variables.thing.Goals as goal

pub returns-in_err-value : goal.returns-in_err-value
returns-in_err-value g c = carries_none c.from_residual.ensures.1

pub returns : goal.returns
unfolding predefined_variable
returns g c = carries_give (ap Some c.in_ok-value.ensures)
