use Rattle.std.proofs.Common.{refl}
use Rattle.ports.proofs.Untold.{untold_closes}
use Rattle.ports.proofs.no_outputs.NoOutputsOutputs.close.Goals as goal

pub returns : goal.returns
returns c = untold_closes refl refl refl
