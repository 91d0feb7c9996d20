use Rattle.std.proofs.Common.{arith}
use Rattle.std.proofs.lemmas.Grind.{common_steps}
use Rattle.world.proofs.store.Store.note_look.Goals as goal

pub returns-clause-world : goal.returns-clause-world
returns-clause-world c = grind (arith, common_steps)

pub returns-clause-names : goal.returns-clause-names
returns-clause-names c = grind (arith, common_steps)
