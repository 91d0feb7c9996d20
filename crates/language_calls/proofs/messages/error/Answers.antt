use Rattle.std.proofs.Common.{map, ap, ◌∙◌}
use Rattle.values.specs.View.{data_of}
use Rattle.support.specs.declared.faults.refusal.Refusal.TheVariants as refusals
use Rattle.world.specs.Deed.{refuse}
use Rattle.language_calls.specs.Messages.{error, line_of, need_printable}
use Rattle.world.proofs.Answering.{carries_as, carries_then, carries_stop, carries_none, carries_refuse}
use Rattle.language_calls.proofs.messages.error.Goals as goal

pub returns-in_err-need_printable : goal.returns-in_err-need_printable
unfolding error
returns-in_err-need_printable g c =
    carries_stop (carries_as (ap (λ vs. need_printable (map data_of vs)) c.deref.ensures.value) c.in_err-need_printable.ensures) c.from_residual.ensures.1

pub returns-in_err-text : goal.returns-in_err-text
unfolding error
returns-in_err-text g c =
    carries_then (carries_as (ap (λ vs. need_printable (map data_of vs)) c.deref.ensures.value) c.in_ok-need_printable.ensures)
    (carries_none c.from_residual-in_err-text.ensures.1)

pub returns : goal.returns
unfolding error
returns g c =
    carries_then (carries_as (ap (λ vs. need_printable (map data_of vs)) c.deref.ensures.value) c.in_ok-need_printable.ensures)
    (carries_as (ap (refuse refusals.Message) (c.as_str.ensures.value ∙ c.in_ok-text.ensures ∙ ap (λ vs. line_of (map data_of vs)) c.deref-2.ensures.value))
    (carries_refuse c.refuse.ensures))
