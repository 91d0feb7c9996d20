use Rattle.std.proofs.Common.{ap}
use Rattle.options.specs.FillIns.{is_usr}
use Rattle.options.proofs.fill_in.is_usr.Goals as goal

pub returns-in-None : goal.returns-in-None
returns-in-None c = ap is_usr c.in-None.ensures
