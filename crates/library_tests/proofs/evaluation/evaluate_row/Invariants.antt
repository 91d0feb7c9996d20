use Rattle.library_tests.proofs.evaluation.evaluate_row.Given as goal

abbrev pub ghosts-evaluate_on : goal.ghosts-evaluate_on
ghosts-evaluate_on a = record { name = a.blank.name; parts = a.blank.parts }
