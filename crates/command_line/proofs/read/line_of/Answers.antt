use Rattle.std.proofs.Common.{arith}
use Rattle.std.proofs.lemmas.Grind.{elements}
use Rattle.command_line.proofs.read.line_of.Goals as goal

pub returns-in-Some : goal.returns-in-Some
returns-in-Some c = grind (arith, elements)

pub returns-in_ok-folder_fault-in-None : goal.returns-in_ok-folder_fault-in-None
returns-in_ok-folder_fault-in-None c = grind (arith, elements)
