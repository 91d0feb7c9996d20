use Rattle.std.proofs.Common.{refl, ap, Some}
use Rattle.ports.specs.DiskOutputs.Closed.{nothing_owed}
use Rattle.ports.proofs.Untold.{untold_opens, untold_none}
use Rattle.ports.proofs.disk_outputs.DiskOutputsOutputs.open.Goals as goal

pub returns-clause-took : goal.returns-clause-took
returns-clause-took g c = untold_opens _ nothing_owed (ap (λ n. Some n) c.in-Ok.ensures.made) refl

pub returns-in_default-clause-took : goal.returns-in_default-clause-took
returns-in_default-clause-took g c = untold_none nothing_owed c.in_default.ensures.name refl
