use Rattle.std.proofs.Common.{arith}
use Rattle.std.proofs.lemmas.Grind.{common_steps}
use Rattle.build.proofs.target_edges.compile_words.all_includes.Goals as goal

pub loop-lists-init : goal.loop-lists-init
loop-lists-init c = grind (arith, common_steps)

pub returns : goal.returns
returns c = grind (arith, common_steps)
