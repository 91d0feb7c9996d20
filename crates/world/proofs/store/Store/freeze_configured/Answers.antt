use Rattle.std.proofs.Common.{arith}
use Rattle.std.proofs.lemmas.Grind.{common_steps}
use Rattle.world.proofs.store.Store.freeze_configured.Goals as goal

pub returns-then-number-len-clause-world : goal.returns-then-number-len-clause-world
returns-then-number-len-clause-world c = grind (arith, common_steps)

pub returns-then-number-len-clause-names : goal.returns-then-number-len-clause-names
returns-then-number-len-clause-names c = grind (arith, common_steps)

pub returns-else-number-len-clause-world : goal.returns-else-number-len-clause-world
returns-else-number-len-clause-world c = grind (arith, common_steps)

pub returns-else-number-len-clause-names : goal.returns-else-number-len-clause-names
returns-else-number-len-clause-names c = grind (arith, common_steps)
