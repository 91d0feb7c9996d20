use Rattle.world.specs.Configuring.{merge_configured}
use Rattle.world.proofs.Configuring.{carries_configured}
use Rattle.world.proofs.caller.Caller.merge_configured.Goals as goal

pub returns : goal.returns
unfolding merge_configured
returns g c =
    let done = c.merge_configured-answer.ensures in
    carries_configured _ _ c.merge_configured-answer.result done.world done.frozen done.err done.names c.configure.ensures
