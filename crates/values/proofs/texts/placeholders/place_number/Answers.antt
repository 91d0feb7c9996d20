use Rattle.std.proofs.Common.{sym, ap, ◌∙◌}
use Rattle.values.specs.texts.Segments.{is_number}
use Rattle.values.proofs.SegmentLemmas.{number_read, number_too_large}
use Rattle.values.proofs.texts.placeholders.place_number.Goals as goal

pub returns-in-Ok : goal.returns-in-Ok
returns-in-Ok c =
    number_read c.args.name.now c.in-Ok.number
    (ap is_number (sym c.as_bytes-2.ensures.value) ∙ sym c.is_number.ensures ∙ c.if-not-is_number.false) c.in-Ok.ensures.value.0

pub returns-in-Err : goal.returns-in-Err
returns-in-Err c =
    number_too_large c.args.name.now (ap is_number (sym c.as_bytes-2.ensures.value) ∙ sym c.is_number.ensures ∙ c.if-not-is_number.false)
    c.in-Err.ensures.value.0
