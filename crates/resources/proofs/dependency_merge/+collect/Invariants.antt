use Rattle.std.proofs.Common.{◌≡◌, ◌+◌, ◌*◌, ◌++◌, map, drop}
use Rattle.values.specs.View.{data_of, items_of}
use Rattle.values.specs.Weight.{weight, items_weight}
use Rattle.resources.specs.Joined.{dependencies_of}
use Rattle.resources.proofs.dependency_merge.+collect.Given as goal

-- what was found and what is left are all
abbrev pub invariant-collect_items-loop-item : goal.invariant-collect_items-loop-item
invariant-collect_items-loop-item l =
    map (λ d. d.now) l.found.items ++ dependencies_of (items_of (drop l.item-index l.items)) ≡ map (λ d. d.now) l.initial.found.items ++
    dependencies_of (items_of l.items)

abbrev pub decreases-collect : goal.decreases-collect
decreases-collect l = 2 * weight (data_of l.value.now)

abbrev pub decreases-collect_items : goal.decreases-collect_items
decreases-collect_items l = 2 * items_weight (items_of l.items.now) + 1
