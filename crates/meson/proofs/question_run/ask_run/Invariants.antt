use Rattle.meson.proofs.question_run.ask_run.Given as goal

abbrev pub ghosts-ask_with : goal.ghosts-ask_with
ghosts-ask_with g a = record { name = a.blank.name; parts = a.blank.parts }
