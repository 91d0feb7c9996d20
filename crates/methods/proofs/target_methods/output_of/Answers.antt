use Rattle.std.proofs.Common.{arith}
use Rattle.std.proofs.lemmas.Grind.{common_steps, elements}
use Rattle.methods.proofs.target_methods.output_of.Goals as goal

pub returns-in-Build : goal.returns-in-Build
returns-in-Build c = grind (arith, common_steps)

pub returns-in_ok-path_in-in-Some : goal.returns-in_ok-path_in-in-Some
returns-in_ok-path_in-in-Some c = grind (arith, elements)

pub returns-in-None : goal.returns-in-None
returns-in-None c = grind (arith, elements)
