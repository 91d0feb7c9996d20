-- Defines `range`, which makes a list of integers.
use Rattle.std.specs.Prelude.{ℕ, zero, suc, ◌+◌, ◌-◌, ◌/◌, nat_le, ℤ, pos, List, [], ◌∷◌}
use Rattle.std.specs.Prelude.{Option, Some, option_and_then, unwrap_or, Result, Err, codes, if◌then◌else◌}
use Rattle.values.specs.Data.{Data, integer, list, Items, no_items, item, integer_in}
use Rattle.values.specs.Limits.{within}
use Rattle.values.specs.declared.refusal.OperationRefusal.{OperationRefusal}
use Rattle.values.specs.declared.refusal.OperationRefusal.TheVariants as refusals
use Rattle.arguments.specs.Arguments.{ArgumentsData}
use Rattle.arguments.specs.Given.{argument}
use Rattle.arguments.specs.declared.rule.Rule.TheVariants as rules
use Rattle.world.specs.Deed.{Deed, give, ◌>>=◌}
use Rattle.world.specs.Ruled.{answered_by}

-- Returns `count` integers, from `first` on, at a distance of `step`.
abbrev pub integers_from : ℕ → ℕ → ℕ → Items
integers_from zero first step = no_items
integers_from (suc count) first step = item (integer (pos first)) (integers_from count (first + step) step)

-- Returns how many integers are in a range with the step `less + 1`, from the start up to but not including the stop: the quotient, rounded
-- up.
abbrev pub how_many : ℕ → ℕ → ℕ → ℕ
how_many start stop less = (stop - start + less) / (less + 1)

-- Returns the list of these integers, if it is within the limits.
abbrev pub range_list : ℕ → ℕ → ℕ → Result Data OperationRefusal
range_list start stop less = within (list (integers_from (how_many start stop less) start (less + 1)))

-- Returns the list of a range. The start must not be negative, the stop not be less than the start, and the step be at least one.
abbrev pub range_answer : ℤ → ℤ → ℤ → Result Data OperationRefusal
range_answer (pos start) (pos stop) (pos (suc less)) = if nat_le start stop then range_list start stop less else Err refusals.Arguments
range_answer _ _ _ = Err refusals.Arguments

-- Returns the integer argument at a position.
abbrev pub integer_at : ℕ → ArgumentsData → ℤ
integer_at i a = unwrap_or (option_and_then integer_in (argument i a)) (pos 0)

-- Returns the list of `range(stop)`, `range(start, stop)` or `range(start, stop, step)`, by the number of arguments.
abbrev pub range_of : List Data → ArgumentsData → Result Data OperationRefusal
range_of (stop ∷ []) a = range_answer (pos 0) (integer_at 0 a) (pos 1)
range_of (start ∷ stop ∷ []) a = range_answer (integer_at 0 a) (integer_at 1 a) (pos 1)
range_of _ a = range_answer (integer_at 0 a) (integer_at 1 a) (integer_at 2 a)

-- Defines `range`, which refuses bad arguments with E9 and too many integers with E22.
unfoldable pub range : ArgumentsData → Deed (Option Data)
range a = do
  d ← answered_by rules.GoesUp (codes "range") (range_of a.positional a)
  give (Some d)
