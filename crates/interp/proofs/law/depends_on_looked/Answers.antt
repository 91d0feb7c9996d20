use Rattle.interp.proofs.Depending.{depends_on_looked}
use Rattle.interp.proofs.law.depends_on_looked.Goals as goal

pub returns : goal.returns
returns c = depends_on_looked
