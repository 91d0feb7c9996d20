use Rattle.std.proofs.Common.{arith}
use Rattle.std.proofs.lemmas.Grind.{common_steps}
use Rattle.target_calls.proofs.source_lookup.short_sources.Goals as goal

pub loop-one-init : goal.loop-one-init
loop-one-init c = grind (arith, common_steps)

pub loop-one-preserved : goal.loop-one-preserved
loop-one-preserved c = grind (arith, common_steps)

pub returns-in-None-2 : goal.returns-in-None-2
returns-in-None-2 c = grind (arith, common_steps)

pub returns : goal.returns
returns c = grind (arith, common_steps)
