use Rattle.std.proofs.Common.{arith}
use Rattle.std.proofs.lemmas.Grind.{common_steps}
use Rattle.machine_file.proofs.value.of_tokens.Goals as goal

pub returns-then-is_empty : goal.returns-then-is_empty
returns-then-is_empty c = grind (arith, common_steps)

pub returns-then-tokens-eq1 : goal.returns-then-tokens-eq1
returns-then-tokens-eq1 c = grind (arith, common_steps)

pub returns-then-is : goal.returns-then-is
returns-then-is c = grind (arith, common_steps)

pub returns-then-tokens-eq2 : goal.returns-then-tokens-eq2
returns-then-tokens-eq2 c = grind (arith, common_steps)

pub returns : goal.returns
returns c = grind (arith, common_steps)
