use Rattle.std.proofs.Common.{refl}
use Rattle.ports.specs.DiskOutputs.Closed.{nothing_owed}
use Rattle.ports.proofs.Untold.{untold_closes, untold_none}
use Rattle.ports.proofs.disk_outputs.DiskOutputsOutputs.close.Goals as goal

pub returns-then-is_err : goal.returns-then-is_err
returns-then-is_err g c = untold_none nothing_owed c.end_output.ensures refl

pub returns : goal.returns
returns g c = untold_closes nothing_owed refl refl
