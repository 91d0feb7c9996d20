use Rattle.language_calls.specs.Messages.{warning}
use Rattle.language_calls.proofs.messages.warning.Goals as goal

pub returns : goal.returns
unfolding warning
returns g c = c.log_line.ensures
