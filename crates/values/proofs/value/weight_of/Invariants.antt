use Rattle.std.proofs.Common.{◌≡◌, ◌+◌, ◌*◌, ◌≤◌, drop}
use Rattle.values.specs.View.{items_of}
use Rattle.values.specs.Weight.{items_weight}
use Rattle.values.proofs.value.weight_of.Given as goal

-- what is counted and what is left make the whole
abbrev pub invariant-loop-value : goal.invariant-loop-value
invariant-loop-value l =
    record {
      whole : l.weight + items_weight (items_of (drop l.value-index l.values)) ≡ items_weight (items_of l.values);
      within : l.weight ≤ l.value-index * 33554432;
    }
