use Rattle.std.proofs.Common.{arith}
use Rattle.std.proofs.lemmas.Grind.{common_steps}
use Rattle.build.proofs.target_edges.compile_words.push_include.Goals as goal

pub returns : goal.returns
returns c = grind (arith, common_steps)
