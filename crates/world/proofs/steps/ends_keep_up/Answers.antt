use Rattle.world.proofs.Counts.{ends_keep_up}
use Rattle.world.proofs.steps.ends_keep_up.Goals as goal

pub returns : goal.returns
returns c = ends_keep_up
