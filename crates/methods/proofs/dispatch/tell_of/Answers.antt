use Rattle.std.proofs.Common.{arith}
use Rattle.std.proofs.lemmas.Grind.{common_steps}
use Rattle.methods.proofs.dispatch.tell_of.Goals as goal

pub returns-in_ok-feature_answer-in-Feature : goal.returns-in_ok-feature_answer-in-Feature
returns-in_ok-feature_answer-in-Feature c = grind (arith, common_steps)

pub returns-in_err-feature_answer-in-Feature : goal.returns-in_err-feature_answer-in-Feature
returns-in_err-feature_answer-in-Feature c = grind (arith, common_steps)

pub returns-in-Dependency : goal.returns-in-Dependency
returns-in-Dependency c = grind (arith, common_steps)

pub returns-in-Program : goal.returns-in-Program
returns-in-Program c = grind (arith, common_steps)

pub returns-in-BuildTarget : goal.returns-in-BuildTarget
returns-in-BuildTarget c = grind (arith, common_steps)

pub returns-in-CustomTarget : goal.returns-in-CustomTarget
returns-in-CustomTarget c = grind (arith, common_steps)

pub returns-in-CustomOutput : goal.returns-in-CustomOutput
returns-in-CustomOutput c = grind (arith, common_steps)

pub returns-in-Meson : goal.returns-in-Meson
returns-in-Meson c = grind (arith, common_steps)

pub returns-in_default : goal.returns-in_default
returns-in_default c = grind (arith, common_steps)
