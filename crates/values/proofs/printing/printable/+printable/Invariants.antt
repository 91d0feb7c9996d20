use Rattle.std.proofs.Common.{◌≡◌, ◌+◌, ◌*◌, drop}
use Rattle.values.specs.View.{data_of, items_of}
use Rattle.values.specs.Weight.{weight, items_weight}
use Rattle.values.specs.printing.Printed.{are_printable}
use Rattle.values.proofs.printing.printable.+printable.Given as goal

-- what is left decides
abbrev pub invariant-are_printable-loop-item : goal.invariant-are_printable-loop-item
invariant-are_printable-loop-item l = are_printable (items_of (drop l.item-index l.items)) ≡ are_printable (items_of l.items)

abbrev pub decreases-is_printable : goal.decreases-is_printable
decreases-is_printable l = 2 * weight (data_of l.value.now)

abbrev pub decreases-are_printable : goal.decreases-are_printable
decreases-are_printable l = 2 * items_weight (items_of l.items.now) + 1
