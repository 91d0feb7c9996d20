use Rattle.world.specs.Configuring.{set_quoted}
use Rattle.world.proofs.Configuring.{carries_configured}
use Rattle.world.proofs.caller.Caller.set_quoted.Goals as goal

pub returns : goal.returns
unfolding set_quoted
returns g c =
    let done = c.set_quoted-answer.ensures in
    carries_configured _ _ c.set_quoted-answer.result done.world done.frozen done.err done.names c.configure.ensures
