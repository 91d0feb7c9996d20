-- Defines marks for the numbers that were met.
use Rattle.std.specs.Prelude.{◌≡◌, ℕ, ◌<◌, Bool, false, List, length, nat_eq, slice_index_or}
use Rattle.std.specs.List.{list_any}

-- Holds if a number with a mark is marked exactly if it is one of these.
abbrev pub AreMarks : (marks : List Bool) → (numbers : List ℕ) → Type 0
AreMarks marks numbers = (k : ℕ) → k < length marks → slice_index_or marks k false ≡ list_any (nat_eq k) numbers
