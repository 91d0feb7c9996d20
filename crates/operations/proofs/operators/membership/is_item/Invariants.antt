use Rattle.std.proofs.Common.{◌≡◌, drop}
use Rattle.values.specs.View.{data_of, items_of}
use Rattle.operations.specs.operators.Rows.{is_item}
use Rattle.operations.proofs.operators.membership.is_item.Given as goal

-- what is left decides
abbrev pub invariant-loop-item : goal.invariant-loop-item
invariant-loop-item l = is_item (data_of l.value) (items_of (drop l.item-index l.items)) ≡ is_item (data_of l.value) (items_of l.items)
