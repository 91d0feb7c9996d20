use Rattle.std.proofs.Common.{arith}
use Rattle.std.proofs.lemmas.Grind.{common_steps}
use Rattle.language_calls.proofs.ranges.range_answer.Goals as goal

pub returns-then-start-lt0 : goal.returns-then-start-lt0
returns-then-start-lt0 c = grind (arith, common_steps)

pub returns : goal.returns
returns c = grind (arith, common_steps)
