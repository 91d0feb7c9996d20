use Rattle.std.proofs.Common.{◌≡◌, ◌+◌, sym, ap, ◌∙◌, arith}
use Rattle.values.specs.Data.{entry_values}
use Rattle.values.specs.Weight.{weight, items_weight, entries_weight}
use Rattle.values.specs.View.{data_of, items_of}
use Rattle.values.proofs.ItemsLemmas.{weight-le-items_weight}
use Rattle.values.proofs.EntriesLemmas.{items_weight-le-entries_weight}
use Rattle.values.specs.printing.Printed.{is_printable, are_printable}
use Rattle.values.proofs.PrintedLemmas.{are_printable-values}
use Rattle.values.proofs.printing.printable.+printable.Goals as goal

pub are_printable-is_printable-requires : goal.are_printable-is_printable-requires
are_printable-is_printable-requires t c = (
  omega (
    arith,
    c.decreases,
    weight-le-items_weight c.args.items.now c.loop-item.item-index c.item-item.result c.loop-item-test.true,
    ap (λ v. weight (data_of v)) c.item-item.is,
  ),
  tt,
)

pub is_printable-are_printable-requires-in-Dictionary : goal.is_printable-are_printable-requires-in-Dictionary
is_printable-are_printable-requires-in-Dictionary t c =
    let es = c.in-Dictionary.dictionary.value in
    let values : items_weight (items_of c.values.result.now) ≡ items_weight (entry_values es) = ap items_weight c.values.ensures.values
    ∙ ap (λ x. items_weight (entry_values x)) c.deref-in-Dictionary.ensures in
    let whole : weight (data_of c.args.value.now) ≡ entries_weight es + 1 = ap (λ v. weight (data_of v)) c.in-Dictionary.is in
    (omega (arith, c.decreases, whole, values, items_weight-le-entries_weight es), tt)

pub is_printable-returns-in-Dictionary : goal.is_printable-returns-in-Dictionary
is_printable-returns-in-Dictionary t c =
    c.are_printable-in-Dictionary.ensures ∙ ap are_printable (c.values.ensures.values ∙ ap entry_values c.deref-in-Dictionary.ensures)
    ∙ are_printable-values c.in-Dictionary.dictionary.value ∙ sym (ap (λ v. is_printable (data_of v)) c.in-Dictionary.is)
