use Rattle.world.specs.Configuring.{freeze_configured}
use Rattle.world.proofs.Answering.{carries_change}
use Rattle.world.proofs.caller.Caller.freeze_configured.Goals as goal

pub returns : goal.returns
unfolding freeze_configured
returns g c = carries_change {x = tt {0}} c.freeze_configured.ensures.world c.freeze_configured.ensures.names
