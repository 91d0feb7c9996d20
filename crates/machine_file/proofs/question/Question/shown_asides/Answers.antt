use Rattle.std.proofs.Common.{arith}
use Rattle.std.proofs.lemmas.Grind.{common_steps}
use Rattle.machine_file.proofs.question.Question.shown_asides.Goals as goal

pub loop-aside-init : goal.loop-aside-init
loop-aside-init c = grind (arith, common_steps)

pub loop-aside-preserved : goal.loop-aside-preserved
loop-aside-preserved c = grind (arith, common_steps)

pub returns : goal.returns
returns c = grind (arith, common_steps)
