use Rattle.world.proofs.Answering.{carries_read}
use Rattle.world.proofs.Settling.{carries_says}
use Rattle.configuration_calls.specs.ConfigureFile.{values_given}
use Rattle.configuration_calls.specs.GivenView.{given_view}
use Rattle.configuration_calls.proofs.configure_arguments.values_given.Goals as goal

pub returns : goal.returns
unfolding values_given
returns g c = carries_read (carries_says {view = given_view} _ c.configuration_given.result c.configuration_given.ensures c.settle.ensures)
