use Rattle.std.proofs.Common.{arith}
use Rattle.std.proofs.lemmas.Grind.{common_steps}
use Rattle.introspection.proofs.json_values.list_of.Goals as goal

pub loop-item-init : goal.loop-item-init
loop-item-init c = grind (arith, common_steps)

pub loop-item-preserved : goal.loop-item-preserved
loop-item-preserved c = grind (arith, common_steps)

pub returns : goal.returns
returns c = grind (arith, common_steps)
