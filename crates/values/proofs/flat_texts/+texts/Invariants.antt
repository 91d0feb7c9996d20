use Rattle.std.proofs.Common.{◌≡◌, ◌+◌, ◌*◌, drop}
use Rattle.values.specs.View.{data_of, items_of}
use Rattle.values.specs.Weight.{weight, items_weight}
use Rattle.values.specs.Flat.{items_are_texts}
use Rattle.values.proofs.flat_texts.+texts.Given as goal

-- what is left decides
abbrev pub invariant-items_are_texts-loop-item : goal.invariant-items_are_texts-loop-item
invariant-items_are_texts-loop-item l = items_are_texts (items_of (drop l.item-index l.items)) ≡ items_are_texts (items_of l.items)

abbrev pub decreases-is_texts : goal.decreases-is_texts
decreases-is_texts l = 2 * weight (data_of l.value.now)

abbrev pub decreases-items_are_texts : goal.decreases-items_are_texts
decreases-items_are_texts l = 2 * items_weight (items_of l.items.now) + 1
