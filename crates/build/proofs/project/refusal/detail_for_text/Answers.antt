use Rattle.std.proofs.Common.{arith}
use Rattle.std.proofs.lemmas.Grind.{common_steps, elements}
use Rattle.build.proofs.project.refusal.detail_for_text.Goals as goal

pub returns-in-NinjaName : goal.returns-in-NinjaName
returns-in-NinjaName c = grind (arith, elements)

pub returns-in-Duplicate : goal.returns-in-Duplicate
returns-in-Duplicate c = grind (arith, elements)

pub returns-in-Limit : goal.returns-in-Limit
returns-in-Limit c = grind (arith, common_steps)

pub returns-in-LateArguments : goal.returns-in-LateArguments
returns-in-LateArguments c = grind (arith, elements)
