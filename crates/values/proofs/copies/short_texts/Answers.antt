use Rattle.std.proofs.Common.{arith}
use Rattle.std.proofs.lemmas.Grind.{common_steps}
use Rattle.values.proofs.copies.short_texts.Goals as goal

pub loop-string-init : goal.loop-string-init
loop-string-init c = (grind (arith, common_steps), grind (arith, common_steps))

pub loop-string-preserved : goal.loop-string-preserved
loop-string-preserved c = (grind (arith, common_steps), grind (arith, common_steps))

pub returns-in-Err : goal.returns-in-Err
returns-in-Err c = grind (arith, common_steps)

pub returns : goal.returns
returns c = grind (arith, common_steps)
