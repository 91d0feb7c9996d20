use Rattle.std.proofs.Common.{ap}
use Rattle.world.specs.Configuring.{add_configuration, copy_configuration}
use Rattle.world.proofs.Answering.{carries_as, carries_none, carries_read}
use Rattle.world.proofs.caller.Caller.copy_configuration.Goals as goal

pub returns-in_err-copy : goal.returns-in_err-copy
returns-in_err-copy g c = carries_none c.from_residual.ensures.1

pub returns : goal.returns
unfolding copy_configuration
returns g c = carries_read (carries_as (ap add_configuration c.in_ok-copy.ensures) c.add_configuration.ensures)
