use Rattle.std.proofs.Common.{arith}
use Rattle.std.proofs.lemmas.Grind.{common_steps}
use Rattle.arguments.proofs.reader.unfit.Goals as goal

pub returns-in-Some : goal.returns-in-Some
returns-in-Some c = grind (arith, common_steps)

pub returns-in-Some-too_few : goal.returns-in-Some-too_few
returns-in-Some-too_few c = grind (arith, common_steps)

pub returns-in-Some-find_misplaced : goal.returns-in-Some-find_misplaced
returns-in-Some-find_misplaced c = grind (arith, common_steps)

pub returns-in-Some-find_misnamed : goal.returns-in-Some-find_misnamed
returns-in-Some-find_misnamed c = grind (arith, common_steps)

pub returns : goal.returns
returns c = grind (arith, common_steps)
