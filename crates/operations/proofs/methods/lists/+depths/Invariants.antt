use Rattle.std.proofs.Common.{◌≡◌, ◌+◌, ◌*◌, drop}
use Rattle.values.specs.View.{data_of, items_of}
use Rattle.values.specs.Weight.{weight, items_weight}
use Rattle.operations.specs.methods.Lists.{stands_in}
use Rattle.operations.proofs.methods.lists.+depths.Given as goal

-- what is left decides
abbrev pub invariant-stands_in-loop-item : goal.invariant-stands_in-loop-item
invariant-stands_in-loop-item l =
    stands_in (data_of l.value) (items_of (drop l.item-index l.items)) ≡ stands_in (data_of l.value) (items_of l.items)

abbrev pub decreases-stands_in : goal.decreases-stands_in
decreases-stands_in l = 2 * items_weight (items_of l.items.now) + 1

abbrev pub decreases-stands_inside : goal.decreases-stands_inside
decreases-stands_inside l = 2 * weight (data_of l.whole.now)
