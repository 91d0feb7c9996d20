use Rattle.std.proofs.Common.{refl}
use Rattle.ports.proofs.Untold.{untold_logs}
use Rattle.ports.proofs.no_outputs.NoOutputsOutputs.log.Goals as goal

pub returns-clause-took : goal.returns-clause-took
returns-clause-took c = untold_logs _ refl refl refl
