use Rattle.world.proofs.Answering.{carries_begun, carries_wanted}
use Rattle.world.proofs.Marks.{front_as}
use Rattle.world.proofs.caller.Caller.begin.Goals as goal

pub returns-in_err-begin : goal.returns-in_err-begin
returns-in_err-begin g c = carries_wanted c.from_residual.ensures.1 (front_as c.in_err-begin.ensures.names)

pub returns : goal.returns
returns g c = carries_begun {x = tt {0}} c.in_ok-begin.ensures.world c.in_ok-begin.ensures.names
