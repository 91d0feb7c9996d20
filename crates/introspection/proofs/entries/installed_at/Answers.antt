use Rattle.std.proofs.Common.{arith}
use Rattle.std.proofs.lemmas.Grind.{common_steps}
use Rattle.introspection.proofs.entries.installed_at.Goals as goal

pub loop-install-init : goal.loop-install-init
loop-install-init c = grind (arith, common_steps)

pub loop-install-preserved : goal.loop-install-preserved
loop-install-preserved c = grind (arith, common_steps)

pub returns : goal.returns
returns c = grind (arith, common_steps)
