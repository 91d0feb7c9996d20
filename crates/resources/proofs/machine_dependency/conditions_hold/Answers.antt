use Rattle.std.proofs.Common.{arith}
use Rattle.std.proofs.lemmas.Grind.{common_steps}
use Rattle.resources.proofs.machine_dependency.conditions_hold.Goals as goal

pub loop-condition-init : goal.loop-condition-init
loop-condition-init c = grind (arith, common_steps)

pub returns-then-not-version_compare : goal.returns-then-not-version_compare
returns-then-not-version_compare c = grind (arith, common_steps)

pub loop-condition-preserved : goal.loop-condition-preserved
loop-condition-preserved c = grind (arith, common_steps)

pub returns : goal.returns
returns c = grind (arith, common_steps)
