use Rattle.std.proofs.Common.{refl}
use Rattle.ports.proofs.Untold.{untold_puts}
use Rattle.ports.proofs.no_outputs.NoOutputsOutputs.put.Goals as goal

pub returns-clause-took : goal.returns-clause-took
returns-clause-took c = untold_puts _ refl refl refl
