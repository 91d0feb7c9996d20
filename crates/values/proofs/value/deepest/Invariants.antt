use Rattle.std.proofs.Common.{◌≡◌, drop, ◌≤◌}
use Rattle.std.specs.Prelude.{max}
use Rattle.values.specs.View.{items_of}
use Rattle.values.specs.Weight.{items_depth}
use Rattle.values.proofs.value.deepest.Given as goal

-- the deepest so far and of what is left is the deepest of all
abbrev pub invariant-loop-value : goal.invariant-loop-value
invariant-loop-value l = record { deepest : max l.depth (items_depth (items_of (drop l.value-index l.values))) ≡ items_depth (items_of l.values); within : l.depth ≤ 64 }
