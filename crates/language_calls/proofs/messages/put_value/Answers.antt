use Rattle.std.proofs.Common.{arith}
use Rattle.std.proofs.lemmas.Grind.{common_steps}
use Rattle.language_calls.proofs.messages.put_value.Goals as goal

pub loop-printer-init : goal.loop-printer-init
loop-printer-init c = grind (arith, common_steps)

pub loop-printer-preserved : goal.loop-printer-preserved
loop-printer-preserved c = grind (arith, common_steps)

pub returns : goal.returns
returns c = grind (arith, common_steps)
