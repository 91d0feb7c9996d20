use Rattle.std.proofs.Common.{Err, ap, sym, ◌∙◌}
use Rattle.machine_file.specs.Answers.{told}
use Rattle.machine_file.specs.View.{read_in}
use Rattle.machine_file.proofs.machine.Machine.read.Goals as goal

pub returns-in-Ok-clause-answer : goal.returns-in-Ok-clause-answer
returns-in-Ok-clause-answer c =
    (read_in c.in_ok-machine.field-0, c.in_ok-machine.ensures.answer, ap (λ r. told (read_in r)) (sym c.in-Ok.is))

pub returns-in-Ok-clause-only : goal.returns-in-Ok-clause-only
returns-in-Ok-clause-only c =
    λ said is. ap (λ r. told (read_in r)) (sym c.in-Ok.is) ∙ ap told (c.in_ok-machine.ensures.only said is)

pub returns-in_ok-tell-in-Err-clause-answer : goal.returns-in_ok-tell-in-Err-clause-answer
returns-in_ok-tell-in-Err-clause-answer c = (
  read_in c.in_ok-machine.field-0,
  c.in_ok-machine.ensures.answer,
  ap Err c.in_ok-tell-in-Err.ensures ∙ ap (λ r. told (read_in r)) (sym c.in-Err.is),
)

pub returns-in_ok-tell-in-Err-clause-only : goal.returns-in_ok-tell-in-Err-clause-only
returns-in_ok-tell-in-Err-clause-only c =
    λ said is. ap Err c.in_ok-tell-in-Err.ensures
    ∙ ap (λ r. told (read_in r)) (sym c.in-Err.is) ∙ ap told (c.in_ok-machine.ensures.only said is)
