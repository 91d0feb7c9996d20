use Rattle.std.proofs.Common.{refl}
use Rattle.ports.proofs.Untold.{untold_faults}
use Rattle.ports.proofs.no_outputs.NoOutputsOutputs.fault.Goals as goal

pub returns-clause-took : goal.returns-clause-took
returns-clause-took c = untold_faults _ refl refl refl
