use Rattle.std.proofs.Common.{arith}
use Rattle.std.proofs.lemmas.Grind.{common_steps}
use Rattle.world.proofs.store.Store.merge_configured.Goals as goal

pub returns-then-number-len-clause-world : goal.returns-then-number-len-clause-world
returns-then-number-len-clause-world c = grind (arith, common_steps)

pub returns-then-number-len-clause-frozen : goal.returns-then-number-len-clause-frozen
returns-then-number-len-clause-frozen c = grind (arith, common_steps)

pub returns-then-number-len-clause-err : goal.returns-then-number-len-clause-err
returns-then-number-len-clause-err c = grind (arith, common_steps)

pub returns-then-number-len-clause-names : goal.returns-then-number-len-clause-names
returns-then-number-len-clause-names c = grind (arith, common_steps)

pub returns-else-number-len-clause-world : goal.returns-else-number-len-clause-world
returns-else-number-len-clause-world c = grind (arith, common_steps)

pub returns-else-number-len-clause-frozen : goal.returns-else-number-len-clause-frozen
returns-else-number-len-clause-frozen c = grind (arith, common_steps)

pub returns-else-number-len-clause-err : goal.returns-else-number-len-clause-err
returns-else-number-len-clause-err c = grind (arith, common_steps)

pub returns-else-number-len-clause-names : goal.returns-else-number-len-clause-names
returns-else-number-len-clause-names c = grind (arith, common_steps)
