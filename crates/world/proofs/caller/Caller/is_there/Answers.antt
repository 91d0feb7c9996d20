use Rattle.std.proofs.Common.{refl}
use Rattle.world.proofs.Answering.{carries_lost, carries_fail, carries_found}
use Rattle.world.proofs.Marks.{front_as}
use Rattle.world.proofs.caller.Caller.is_there.Goals as goal

pub returns-in_err-size : goal.returns-in_err-size
returns-in_err-size g c = carries_fail c.in_err-size.ensures.asks.stays c.in_err-size.ensures.asks.failures refl c.from_residual.ensures.1

pub returns-in_err-note_look : goal.returns-in_err-note_look
returns-in_err-note_look g c =
    carries_lost c.from_residual-in_err-note_look.ensures.1 (front_as c.in_err-note_look.ensures.names) c.in_ok-size.ensures.asks.stays c.in_ok-size.ensures.asks.failures

pub returns : goal.returns
returns g c =
    let asked = c.in_ok-size.ensures in
    carries_found _ c.in_ok-note_look.ensures.world c.in_ok-note_look.ensures.names asked.size c.is_some-found.ensures asked.asks.stays asked.asks.failures
