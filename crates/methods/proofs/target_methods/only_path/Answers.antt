use Rattle.std.proofs.Common.{arith}
use Rattle.std.proofs.lemmas.Grind.{common_steps}
use Rattle.methods.proofs.target_methods.only_path.Goals as goal

pub returns-in_ok-path_in-in-len1 : goal.returns-in_ok-path_in-in-len1
returns-in_ok-path_in-in-len1 c = grind (arith, common_steps)

pub returns-in_default : goal.returns-in_default
returns-in_default c = grind (arith, common_steps)
