use Rattle.std.proofs.Common.{Some, ap}
use Rattle.world.proofs.Answering.{carries_give, carries_none}
use Rattle.resource_calls.proofs.call_results.return_object.Goals as goal

pub returns-in_err-value : goal.returns-in_err-value
returns-in_err-value g c = carries_none c.from_residual.ensures.1

pub returns : goal.returns
returns g c = carries_give (ap Some c.in_ok-value.ensures)
