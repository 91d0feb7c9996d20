use Rattle.std.proofs.Common.{arith}
use Rattle.std.proofs.lemmas.Grind.{common_steps}
use Rattle.build.proofs.sources.all_generated.Goals as goal

pub loop-lists-init : goal.loop-lists-init
loop-lists-init c = grind (arith, common_steps)

pub loop-lists-preserved : goal.loop-lists-preserved
loop-lists-preserved c = grind (arith, common_steps)

pub returns : goal.returns
returns c = grind (arith, common_steps)
