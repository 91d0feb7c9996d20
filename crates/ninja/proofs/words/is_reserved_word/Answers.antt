use Rattle.std.proofs.Common.{arith}
use Rattle.std.proofs.lemmas.Grind.{common_steps}
use Rattle.ninja.proofs.words.is_reserved_word.Goals as goal

pub returns-in-case : goal.returns-in-case
returns-in-case c = grind (arith, common_steps)

pub returns-in-case-2 : goal.returns-in-case-2
returns-in-case-2 c = grind (arith, common_steps)

pub returns-in-case-3 : goal.returns-in-case-3
returns-in-case-3 c = grind (arith, common_steps)

pub returns-in-case-4 : goal.returns-in-case-4
returns-in-case-4 c = grind (arith, common_steps)

pub returns-in-case-5 : goal.returns-in-case-5
returns-in-case-5 c = grind (arith, common_steps)

pub returns-in-case-6 : goal.returns-in-case-6
returns-in-case-6 c = grind (arith, common_steps)

pub returns-in-case-7 : goal.returns-in-case-7
returns-in-case-7 c = grind (arith, common_steps)

pub returns-in-case-8 : goal.returns-in-case-8
returns-in-case-8 c = grind (arith, common_steps)

pub returns-in-case-9 : goal.returns-in-case-9
returns-in-case-9 c = grind (arith, common_steps)

pub returns-in-case-10 : goal.returns-in-case-10
returns-in-case-10 c = grind (arith, common_steps)

pub returns-in-case-11 : goal.returns-in-case-11
returns-in-case-11 c = grind (arith, common_steps)

pub returns-in-case-12 : goal.returns-in-case-12
returns-in-case-12 c = grind (arith, common_steps)

pub returns-in-case-13 : goal.returns-in-case-13
returns-in-case-13 c = grind (arith, common_steps)
