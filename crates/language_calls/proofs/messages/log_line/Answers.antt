use Rattle.std.proofs.Common.{◌++◌, map, codes, ap, refl}
use Rattle.values.specs.View.{data_of}
use Rattle.world.specs.Deed.{say}
use Rattle.language_calls.specs.Messages.{line_of, logged_line, need_printable}
use Rattle.world.proofs.Answering.{carries_as, carries_then, carries_stop, carries_give}
use Rattle.language_calls.proofs.messages.log_line.Goals as goal

pub returns-in_err-need_printable : goal.returns-in_err-need_printable
unfolding logged_line
returns-in_err-need_printable g c =
    carries_stop (carries_as (ap (λ vs. need_printable (map data_of vs)) c.deref.ensures.value) c.in_err-need_printable.ensures) c.from_residual.ensures.1

pub returns-in_err-say_line : goal.returns-in_err-say_line
unfolding logged_line
returns-in_err-say_line g c =
    carries_then (carries_as (ap (λ vs. need_printable (map data_of vs)) c.deref.ensures.value) c.in_ok-need_printable.ensures)
    (carries_stop (carries_as (ap (λ vs. say (c.args.start.now ++ (line_of (map data_of vs) ++ codes "\n"))) c.deref-2.ensures.value) c.in_err-say_line.ensures)
    c.from_residual-in_err-say_line.ensures.1)

pub returns : goal.returns
unfolding logged_line
returns g c =
    carries_then (carries_as (ap (λ vs. need_printable (map data_of vs)) c.deref.ensures.value) c.in_ok-need_printable.ensures)
    (carries_then (carries_as (ap (λ vs. say (c.args.start.now ++ (line_of (map data_of vs) ++ codes "\n"))) c.deref-2.ensures.value) c.in_ok-say_line.ensures)
    (carries_give refl))
