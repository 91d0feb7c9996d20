use Rattle.std.proofs.Common.{◌≡◌, ◌+◌, ◌*◌, drop, length}
use Rattle.values.specs.View.{data_of, items_of}
use Rattle.values.specs.Weight.{weight, items_weight}
use Rattle.values.specs.Flat.{opened_items}
use Rattle.values.proofs.flatten.+count.Given as goal

-- what was counted and what is left are all
abbrev pub invariant-count_items-loop-item : goal.invariant-count_items-loop-item
invariant-count_items-loop-item l =
    l.found + length (opened_items (items_of (drop l.item-index l.items))) ≡ length (opened_items (items_of l.items))

abbrev pub decreases-flattened_count : goal.decreases-flattened_count
decreases-flattened_count l = 2 * weight (data_of l.value.now)

abbrev pub decreases-count_items : goal.decreases-count_items
decreases-count_items l = 2 * items_weight (items_of l.items.now) + 1
