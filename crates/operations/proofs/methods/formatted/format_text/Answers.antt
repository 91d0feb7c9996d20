use Rattle.std.proofs.Common.{map, sym, ap, ◌∙◌}
use Rattle.std.specs.List.{list_all}
use Rattle.values.specs.View.{data_of}
use Rattle.values.specs.texts.Segments.{segment_data}
use Rattle.operations.specs.methods.Formatted.{has_value}
use Rattle.operations.proofs.FormattedLemmas.{formatted_refused, formatted_absent, formatted_made, formatted_long}
use Rattle.operations.proofs.methods.formatted.format_text.Goals as goal

pub returns-then-not-are_printable : goal.returns-then-not-are_printable
returns-then-not-are_printable c = formatted_refused c.args.text.now c.args.values.now
    (sym c.are_printable.ensures ∙ c.if-not-are_printable.true)

pub returns-then-not-have_values : goal.returns-then-not-have_values
returns-then-not-have_values c =
    formatted_absent c.args.text.now c.args.values.now (sym c.are_printable.ensures ∙ c.if-not-are_printable.false)
    (ap (list_all (has_value (map data_of c.args.values.now))) (sym c.in_ok-segments.ensures.segments ∙ ap (map segment_data) (sym c.deref.ensures.value))
    ∙ sym c.have_values.ensures ∙ c.if-not-have_values.true)

pub returns-in-Ok : goal.returns-in-Ok
returns-in-Ok c =
    let values = map data_of c.args.values.now in
    let wrote = rw c.in-Ok.is at c.in_ok-write_segments.ensures in
    formatted_made c.args.text.now c.args.values.now (map segment_data c.deref-2.result.now) c.empty-made.result c.write_segments.new.made (sym c.are_printable.ensures ∙ c.if-not-are_printable.false)
    (ap (map segment_data) c.deref-2.ensures.value ∙ c.in_ok-segments.ensures.segments)
    (ap (λ ss. list_all (has_value values) (map segment_data ss)) (c.deref-2.ensures.value ∙ sym c.deref.ensures.value)
    ∙ sym c.have_values.ensures ∙ c.if-not-have_values.false)
    c.empty-made.ensures wrote

pub returns : goal.returns
returns c =
    let values = map data_of c.args.values.now in
    let wrote = rw c.in-Err.is at c.in_ok-write_segments.ensures in
    formatted_long c.args.text.now c.args.values.now (map segment_data c.deref-2.result.now) c.empty-made.result c.write_segments.new.made c.in-Err.refusal (sym c.are_printable.ensures ∙ c.if-not-are_printable.false)
    (ap (map segment_data) c.deref-2.ensures.value ∙ c.in_ok-segments.ensures.segments)
    (ap (λ ss. list_all (has_value values) (map segment_data ss)) (c.deref-2.ensures.value ∙ sym c.deref.ensures.value)
    ∙ sym c.have_values.ensures ∙ c.if-not-have_values.false)
    c.empty-made.ensures wrote
