use Rattle.std.proofs.Common.{◌≡◌, ◌+◌, ◌*◌, ◌++◌, map, drop}
use Rattle.values.specs.View.{data_of, items_of}
use Rattle.values.specs.Weight.{weight, items_weight}
use Rattle.values.specs.Flat.{opened_items}
use Rattle.values.proofs.flatten.+open.Given as goal

-- what was found and what is left are all
abbrev pub invariant-open_items-loop-item : goal.invariant-open_items-loop-item
invariant-open_items-loop-item l =
    map (λ v. data_of v.now) l.found.items ++ opened_items (items_of (drop l.item-index l.items)) ≡ map (λ v. data_of v.now) l.initial.found.items ++
    opened_items (items_of l.items)

abbrev pub decreases-open : goal.decreases-open
decreases-open l = 2 * weight (data_of l.value.now)

abbrev pub decreases-open_items : goal.decreases-open_items
decreases-open_items l = 2 * items_weight (items_of l.items.now) + 1
