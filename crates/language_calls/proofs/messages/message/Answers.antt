use Rattle.language_calls.specs.Messages.{message}
use Rattle.language_calls.proofs.messages.message.Goals as goal

pub returns : goal.returns
unfolding message
returns g c = c.log_line.ensures
