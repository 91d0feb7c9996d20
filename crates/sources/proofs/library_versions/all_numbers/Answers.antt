use Rattle.std.proofs.Common.{arith}
use Rattle.std.proofs.lemmas.Grind.{common_steps}
use Rattle.sources.proofs.library_versions.all_numbers.Goals as goal

pub loop-part-init : goal.loop-part-init
loop-part-init c = grind (arith, common_steps)

pub returns-then-not-is_number : goal.returns-then-not-is_number
returns-then-not-is_number c = grind (arith, common_steps)

pub loop-part-preserved : goal.loop-part-preserved
loop-part-preserved c = grind (arith, common_steps)

pub returns : goal.returns
returns c = grind (arith, common_steps)
