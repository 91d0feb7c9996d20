use Rattle.std.proofs.Common.{arith}
use Rattle.std.proofs.lemmas.Grind.{common_steps}
use Rattle.operations.proofs.methods.booleans.to_string.Goals as goal

pub returns-in_ok-clone-in-Text : goal.returns-in_ok-clone-in-Text
returns-in_ok-clone-in-Text c = grind (arith, common_steps)

pub returns-in_default : goal.returns-in_default
returns-in_default c = grind (arith, common_steps)
