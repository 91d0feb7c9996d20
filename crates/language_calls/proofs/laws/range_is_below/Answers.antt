use Rattle.language_calls.proofs.Stepping.{range_does}
use Rattle.language_calls.proofs.laws.range_is_below.Goals as goal

pub returns : goal.returns
returns c = range_does
