use Rattle.std.proofs.Common.{◌≡◌, ◌+◌, ◌*◌, drop}
use Rattle.values.specs.View.{data_of, items_of}
use Rattle.values.specs.Weight.{weight, items_weight}
use Rattle.arguments.specs.Dependencies.{all_found}
use Rattle.arguments.proofs.dependencies.+found.Given as goal

-- what is left decides
abbrev pub invariant-all_found-loop-item : goal.invariant-all_found-loop-item
invariant-all_found-loop-item l = all_found (items_of (drop l.item-index l.items)) ≡ all_found (items_of l.items)

abbrev pub decreases-are_found : goal.decreases-are_found
decreases-are_found l = 2 * weight (data_of l.value.now)

abbrev pub decreases-all_found : goal.decreases-all_found
decreases-all_found l = 2 * items_weight (items_of l.items.now) + 1
