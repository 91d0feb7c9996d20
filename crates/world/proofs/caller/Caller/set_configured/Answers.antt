use Rattle.world.specs.Configuring.{set_configured}
use Rattle.world.proofs.Configuring.{carries_configured}
use Rattle.world.proofs.caller.Caller.set_configured.Goals as goal

pub returns : goal.returns
unfolding set_configured
returns g c =
    let done = c.set_configured-answer.ensures in
    carries_configured _ _ c.set_configured-answer.result done.world done.frozen done.err done.names c.configure.ensures
