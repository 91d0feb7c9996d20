use Rattle.std.proofs.Common.{arith}
use Rattle.std.proofs.lemmas.Grind.{common_steps}
use Rattle.machine_file.proofs.question.check_key.Goals as goal

pub loop-argument-init : goal.loop-argument-init
loop-argument-init c = grind (arith, common_steps)

pub loop-argument-preserved : goal.loop-argument-preserved
loop-argument-preserved c = grind (arith, common_steps)

pub returns : goal.returns
returns c = grind (arith, common_steps)
