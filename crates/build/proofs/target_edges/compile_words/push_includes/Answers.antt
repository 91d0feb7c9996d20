use Rattle.std.proofs.Common.{arith}
use Rattle.std.proofs.lemmas.Grind.{common_steps}
use Rattle.build.proofs.target_edges.compile_words.push_includes.Goals as goal

pub loop-folder-init : goal.loop-folder-init
loop-folder-init c = grind (arith, common_steps)

pub loop-folder-preserved : goal.loop-folder-preserved
loop-folder-preserved c = grind (arith, common_steps)

pub returns : goal.returns
returns c = grind (arith, common_steps)
