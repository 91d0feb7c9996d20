use Rattle.std.proofs.Common.{arith}
use Rattle.std.proofs.lemmas.Grind.{common_steps}
use Rattle.operations.proofs.methods.readers.bounds.Goals as goal

pub returns-in-empty : goal.returns-in-empty
returns-in-empty c = grind (arith, common_steps)

pub returns-in_ok-integer-in-len1 : goal.returns-in_ok-integer-in-len1
returns-in_ok-integer-in-len1 c = grind (arith, common_steps)

pub returns-in_ok-integer-in-len2-2 : goal.returns-in_ok-integer-in-len2-2
returns-in_ok-integer-in-len2-2 c = grind (arith, common_steps)

pub returns-in_default : goal.returns-in_default
returns-in_default c = grind (arith, common_steps)
