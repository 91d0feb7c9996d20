-- Counts the events before each rule that ended.
use Rattle.std.specs.Prelude.{◌≡◌, ℕ, ◌+◌, ◌≤◌, List, [], ◌∷◌, ◌++◌, length, if◌then◌else◌, nat_lt}
use Rattle.world.specs.Trace.{Mark, Told, Ended, ends_of, steps_of}

-- Returns for each rule that ended the number of events before its end, if `n` came before.
abbrev pub counts_from : ℕ → List Mark → List ℕ
counts_from n [] = []
counts_from n (Told e ∷ ms) = counts_from (n + 1) ms
counts_from n (Ended ∷ ms) = n ∷ counts_from n ms

-- Returns how many numbers are less than a bound.
abbrev pub below : ℕ → List ℕ → ℕ
below k [] = 0
below k (n ∷ ns) = (if nat_lt n k then 1 else 0) + below k ns

-- States that a prefix of a run's marks has at least as many ended rules as there are counts below the number of its steps.
abbrev pub EndsKeepUp : Type 0
EndsKeepUp = (made left : List Mark) → below (length (steps_of made)) (counts_from 0 (made ++ left)) ≤ ends_of made

-- Holds if a run that ended ticked once for each rule, and at most `cost` times.
pub record TicksAll (marks : List Mark) (cost old new : ℕ) : Type 0 where
  pub each : new ≡ old + ends_of marks
  pub within : ends_of marks ≤ cost

-- Holds if a run that stopped ticked at most `cost` times, and at least once for each rule that ended before the last step that it took.
pub record TicksSome (marks : List Mark) (cost : ℕ) (old new : ℕ) : Type 0 where
  pub made : List Mark
  pub left : List Mark
  pub all : marks ≡ made ++ left
  pub most : new ≤ old + cost
  pub least : old + below (length (steps_of made)) (counts_from 0 marks) ≤ new
