use Rattle.interp.proofs.AsEvaluated.{calls_as_evaluated}
use Rattle.interp.proofs.law.calls_as_evaluated.Goals as goal

pub returns : goal.returns
returns c = calls_as_evaluated
