use Rattle.std.proofs.Common.{ap, codes, ◌∙◌}
use Rattle.machine_file.specs.Questions.{Key, answer_to}
use Rattle.world.proofs.Answering.{carries_give, carries_none, carries_stop, carries_then}
use Rattle.project_calls.specs.Programs.{program, program_by}
use Rattle.project_calls.proofs.programs.program.Goals as goal

pub returns-in_err-ask_key : goal.returns-in_err-ask_key
unfolding program
returns-in_err-ask_key g c = carries_stop c.in_err-ask_key.ensures.deed c.from_residual.ensures.1

pub returns-in_err-words : goal.returns-in_err-words
unfolding program
returns-in_err-words g c = carries_then c.in_ok-ask_key.ensures.deed (carries_none c.from_residual-in_err-words.ensures.1)

pub returns : goal.returns
unfolding program
returns g c =
    carries_then c.in_ok-ask_key.ensures.deed (carries_give (c.in_ok-words.ensures
    ∙ ap (λ m. program_by (answer_to m (Key (codes "binaries") c.args.name.now)) c.args.default.now)
    (c.machine.ensures ∙ c.in_ok-ask_key.ensures.machine)))
