use Rattle.world.proofs.Answering.{carries_said, carries_unsaid}
use Rattle.world.proofs.caller.Caller.say.Goals as goal

pub returns-in_err-log_all : goal.returns-in_err-log_all
returns-in_err-log_all g c = carries_unsaid c.as_bytes.ensures.value c.in_err-log_all.ensures.sends c.in_err-log_all.ensures.failures c.from_residual.ensures.1

pub returns : goal.returns
returns g c = carries_said c.as_bytes.ensures.value c.in_ok-log_all.ensures.sends c.in_ok-log_all.ensures.failures
