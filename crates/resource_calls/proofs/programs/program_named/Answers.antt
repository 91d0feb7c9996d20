use Rattle.std.proofs.Common.{List, Option, ap, option_map, refl, subst, sym, ◌∙◌}
use Rattle.std.specs.Prelude.{codes}
use Rattle.std.specs.Option.{option_transpose}
use Rattle.arguments.specs.Stops.{Gives}
use Rattle.build.specs.edge.Texts.{Text}
use Rattle.machine_file.specs.Questions.{Key, answer_to}
use Rattle.resources.specs.Fitting.{program_words}
use Rattle.values.specs.Copies.{within_texts}
use Rattle.world.proofs.Answering.{carries_as, carries_give, carries_stop, carries_then, room_later}
use Rattle.world.proofs.Settling.{carries_given}
use Rattle.resource_calls.specs.Programs.{program_named, words_or_file}
use Rattle.resource_calls.proofs.programs.program_named.Goals as goal

pub file_named-requires : goal.file_named-requires
file_named-requires g c = room_later c.requires c.in_ok-ask_key.ensures.deed

pub returns-in_err-ask_key : goal.returns-in_err-ask_key
unfolding program_named
returns-in_err-ask_key g c = carries_stop c.in_err-ask_key.ensures.deed c.from_residual.ensures.1

pub returns-in_err-words : goal.returns-in_err-words
unfolding program_named
returns-in_err-words g c =
    let same : Option (List Text) → Option (List Text) = λ words. words in
    let said = subst (λ m. Gives same (option_transpose (option_map within_texts (program_words (answer_to m (Key (codes "binaries") c.args.name.now)))))
    c.program_words-words.result) (c.machine.ensures ∙ c.in_ok-ask_key.ensures.machine) c.program_words-words.ensures in
    carries_then c.in_ok-ask_key.ensures.deed
    (carries_stop (carries_given {view = same} _ c.program_words-words.result said c.in_err-words.ensures) c.from_residual-in_err-words.ensures.1)

pub returns-in-Some : goal.returns-in-Some
unfolding program_named words_or_file
returns-in-Some g c =
    let same : Option (List Text) → Option (List Text) = λ words. words in
    let said = subst (λ m. Gives same (option_transpose (option_map within_texts (program_words (answer_to m (Key (codes "binaries") c.args.name.now)))))
    c.program_words-words.result) (c.machine.ensures ∙ c.in_ok-ask_key.ensures.machine) c.program_words-words.ensures in
    carries_then c.in_ok-ask_key.ensures.deed
    (carries_then {x = c.in_ok-words.field-0} (carries_given {view = same} _ c.program_words-words.result said c.in_ok-words.ensures)
    (carries_as (ap (λ words. words_or_file words c.args.name.now) (sym c.in-Some.is)) (carries_give refl)))

pub returns-in-None : goal.returns-in-None
unfolding program_named words_or_file
returns-in-None g c =
    let same : Option (List Text) → Option (List Text) = λ words. words in
    let said = subst (λ m. Gives same (option_transpose (option_map within_texts (program_words (answer_to m (Key (codes "binaries") c.args.name.now)))))
    c.program_words-words.result) (c.machine.ensures ∙ c.in_ok-ask_key.ensures.machine) c.program_words-words.ensures in
    carries_then c.in_ok-ask_key.ensures.deed
    (carries_then {x = c.in_ok-words.field-0} (carries_given {view = same} _ c.program_words-words.result said c.in_ok-words.ensures)
    (carries_as (ap (λ words. words_or_file words c.args.name.now) (sym c.in-None.is)) c.file_named.ensures))
