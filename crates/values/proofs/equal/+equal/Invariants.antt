use Rattle.std.proofs.Common.{◌≡◌, ◌+◌, ◌*◌, drop}
use Rattle.values.specs.View.{data_of, items_of}
use Rattle.values.specs.Weight.{weight, items_weight}
use Rattle.values.proofs.equal.+equal.Given as goal

-- what is left decides
abbrev pub invariant-equal_items-loop-i : goal.invariant-equal_items-loop-i
invariant-equal_items-loop-i l =
    record {
      enough : items_of (drop l.i l.items) ≡ items_of (drop l.i l.others) → items_of l.items ≡ items_of l.others;
      needed : items_of l.items ≡ items_of l.others → items_of (drop l.i l.items) ≡ items_of (drop l.i l.others);
    }

abbrev pub decreases-are_equal : goal.decreases-are_equal
decreases-are_equal l = 2 * weight (data_of l.value.now)

abbrev pub decreases-equal_items : goal.decreases-equal_items
decreases-equal_items l = 2 * items_weight (items_of l.items.now) + 1
