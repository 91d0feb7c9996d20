use Rattle.std.proofs.Common.{[], ◌∷◌, map, ap, sym, refl}
use Rattle.values.specs.View.{data_of}
use Rattle.values.specs.printing.Printed.{text_of_value}
use Rattle.world.specs.Deed.{say}
use Rattle.world.proofs.Answering.{carries_as, carries_give, carries_stop, carries_then}
use Rattle.language_calls.specs.Messages.{line_of}
use Rattle.language_calls.specs.Saying.{behind_spaces}
use Rattle.language_calls.proofs.Saying.{carries_whole, no_line}
use Rattle.language_calls.proofs.messages.say_values.Goals as goal

pub returns-in_default : goal.returns-in_default
returns-in_default g c = carries_as (ap say (sym (no_line c.args.values.now c.in_default.ensures.cases))) (carries_whole [] (carries_give refl))

pub returns-in_err-say_value : goal.returns-in_err-say_value
returns-in_err-say_value g c =
    let d = data_of c.in-Some.first.now in
    let ds = map data_of c.in-Some.others.now in
    carries_as (ap (λ vs. say (line_of (map data_of vs))) (sym c.in-Some.ensures.cases.0))
    (carries_whole (text_of_value d ∷ behind_spaces ds) (carries_stop c.in_err-say_value.ensures c.from_residual.ensures.1))

pub returns : goal.returns
returns g c =
    let d = data_of c.in-Some.first.now in
    let ds = map data_of c.in-Some.others.now in
    carries_as (ap (λ vs. say (line_of (map data_of vs))) (sym c.in-Some.ensures.cases.0))
    (carries_whole (text_of_value d ∷ behind_spaces ds) (carries_then c.in_ok-say_value.ensures c.say_others.ensures))
