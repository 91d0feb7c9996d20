use Rattle.std.proofs.Common.{arith}
use Rattle.std.proofs.lemmas.Grind.{common_steps}
use Rattle.arguments.proofs.reader.missing.Goals as goal

pub loop-keywords-init : goal.loop-keywords-init
loop-keywords-init c = grind (arith, common_steps)

pub loop-keyword-init : goal.loop-keyword-init
loop-keyword-init c = grind (arith, common_steps)

pub loop-keywords-preserved : goal.loop-keywords-preserved
loop-keywords-preserved c = grind (arith, common_steps)

pub returns : goal.returns
returns c = grind (arith, common_steps)
