use Rattle.std.proofs.Common.{arith}
use Rattle.std.proofs.lemmas.Grind.{common_steps}
use Rattle.target_calls.proofs.custom.list_written.Goals as goal

pub loop-named-init : goal.loop-named-init
loop-named-init c = grind (arith, common_steps)

pub loop-named-preserved : goal.loop-named-preserved
loop-named-preserved c = grind (arith, common_steps)

pub returns : goal.returns
returns c = grind (arith, common_steps)
