use Rattle.std.proofs.Common.{arith}
use Rattle.std.proofs.lemmas.Grind.{common_steps}
use Rattle.project_calls.proofs.option_as_value.list_of.Goals as goal

pub loop-string-init : goal.loop-string-init
loop-string-init c = grind (arith, common_steps)

pub loop-string-preserved : goal.loop-string-preserved
loop-string-preserved c = grind (arith, common_steps)

pub returns : goal.returns
returns c = grind (arith, common_steps)
