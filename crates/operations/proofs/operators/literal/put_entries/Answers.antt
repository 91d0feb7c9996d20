use Rattle.std.proofs.Common.{arith}
use Rattle.std.proofs.lemmas.Grind.{common_steps}
use Rattle.operations.proofs.operators.literal.put_entries.Goals as goal

pub loop-key-init : goal.loop-key-init
loop-key-init c = grind (arith, common_steps)
