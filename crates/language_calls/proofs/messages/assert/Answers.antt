use Rattle.std.proofs.Common.{refl}
use Rattle.language_calls.specs.Messages.{assert}
use Rattle.world.proofs.Answering.{carries_as, carries_then, carries_stop, carries_give}
use Rattle.language_calls.proofs.messages.assert.Goals as goal

pub returns-in_err-need : goal.returns-in_err-need
unfolding assert
returns-in_err-need g c = carries_stop (carries_as (cc (c.flag_at-is_so.ensures, c.text_or.ensures)) c.in_err-need.ensures) c.from_residual.ensures.1

pub returns : goal.returns
unfolding assert
returns g c = carries_then (carries_as (cc (c.flag_at-is_so.ensures, c.text_or.ensures)) c.in_ok-need.ensures) (carries_give refl)
