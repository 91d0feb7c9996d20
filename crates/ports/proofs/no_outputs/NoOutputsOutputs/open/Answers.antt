use Rattle.std.proofs.Common.{refl, ap, Some}
use Rattle.ports.proofs.Untold.{untold_none, untold_opens}
use Rattle.ports.proofs.no_outputs.NoOutputsOutputs.open.Goals as goal

pub returns-clause-took : goal.returns-clause-took
returns-clause-took c = untold_opens _ refl (ap (λ n. Some n) c.in-Ok.ensures.ok) refl

pub returns-in_default-clause-took : goal.returns-in_default-clause-took
returns-in_default-clause-took c = untold_none refl refl refl
