use Rattle.std.proofs.Common.{sym}
use Rattle.configuration_calls.specs.Methods.{other_given}
use Rattle.world.proofs.Found.{carries_itself}
use Rattle.configuration_calls.proofs.methods.other_given.Goals as goal

pub returns : goal.returns
unfolding other_given
returns g c = carries_itself _ (sym c.first_number.ensures) c.ok_or.ensures.value c.fitting.ensures
