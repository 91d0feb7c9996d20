-- States which integers `range` returns: all that are reached by steps from the start and are below the stop, in order.
use Rattle.std.specs.Prelude.{◌≡◌, ◌↔◌, ◌<◌, ◌≤◌, ℕ, zero, suc, ◌+◌, ◌*◌, pos, Option, Some, None}
use Rattle.values.specs.Data.{Data, integer, Items, no_items, item}
use Rattle.language_calls.specs.Range.{how_many, integers_from}

-- Returns the item at an index.
abbrev pub item_at : Items → ℕ → Option Data
item_at no_items k = None
item_at (item d ds) zero = Some d
item_at (item d ds) (suc k) = item_at ds k

-- States that an index is in the list exactly if its integer is below the stop. Index k has `start + k * step`, where the step is `less +
-- 1`. So the list has no other integer, and none is missing.
abbrev pub RangeIsBelow : Type 0
RangeIsBelow = (start stop less : ℕ) →
    ((k : ℕ) → (k < how_many start stop less) ↔ (start + k * (less + 1) < stop))
    × ((k : ℕ) → k < how_many start stop less
    → item_at (integers_from (how_many start stop less) start (less + 1)) k ≡ Some (integer (pos (start + k * (less + 1)))))
    × ((k : ℕ) → how_many start stop less ≤ k → item_at (integers_from (how_many start stop less) start (less + 1)) k ≡ None)
