use Rattle.std.proofs.Common.{arith}
use Rattle.std.proofs.lemmas.Grind.{common_steps}
use Rattle.resource_calls.proofs.destinations.installs_of.Goals as goal

pub loop-one-init : goal.loop-one-init
loop-one-init c = grind (arith, common_steps)

pub returns-in_default : goal.returns-in_default
returns-in_default c = grind (arith, common_steps)

pub loop-one-preserved : goal.loop-one-preserved
loop-one-preserved c = grind (arith, common_steps)

pub returns : goal.returns
returns c = grind (arith, common_steps)
