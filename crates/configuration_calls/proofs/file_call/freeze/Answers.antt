use Rattle.std.proofs.Common.{refl, sym, ap}
use Rattle.world.proofs.Answering.{carries_as, carries_give}
use Rattle.configuration_calls.specs.ConfigureFile.{frozen_by}
use Rattle.configuration_calls.proofs.file_call.freeze.Goals as goal

pub returns-in-Some : goal.returns-in-Some
unfolding frozen_by
returns-in-Some g c = carries_as (ap frozen_by (sym c.in-Some.is)) c.freeze_configured.ensures

pub returns-in-None : goal.returns-in-None
unfolding frozen_by
returns-in-None g c = carries_as (ap frozen_by (sym c.in-None.is)) (carries_give refl)
