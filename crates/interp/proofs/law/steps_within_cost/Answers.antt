use Rattle.interp.proofs.Costs.{steps_within_cost}
use Rattle.interp.proofs.law.steps_within_cost.Goals as goal

pub returns : goal.returns
returns c = steps_within_cost
