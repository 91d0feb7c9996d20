use Rattle.std.proofs.Common.{◌≡◌, ℕ, ◌+◌, ◌-◌, ◌≤◌, max, length, get_or, None}
use Rattle.world.proofs.store.reach.Given as goal

-- what was there is there, and nothing is new
abbrev pub invariant-loop-slots : goal.invariant-loop-slots
invariant-loop-slots l = record {
  same : (i : ℕ) → get_or l.slots.items i None ≡ get_or l.initial.slots.items i None;
  few : length l.slots.items ≤ max (length l.initial.slots.items) (l.number + 1);
}

abbrev pub decreases-loop-slots : goal.decreases-loop-slots
decreases-loop-slots l = l.number + 1 - length l.slots.items
