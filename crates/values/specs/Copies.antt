-- Defines the copies of strings that are texts within the limits.
use Rattle.std.specs.Prelude.{ℕ, Bool, true, ◌&&◌, nat_le, List, [], ◌∷◌, length, Result, Ok, Err, if◌then◌else◌}
use Rattle.support.specs.Limits.{items, is_short}
use Rattle.values.specs.declared.refusal.OperationRefusal.{OperationRefusal}
use Rattle.values.specs.declared.refusal.OperationRefusal.TheVariants as refusal

-- Holds if each text is within the limit.
abbrev pub are_short : List (List ℕ) → Bool
are_short [] = true
are_short (t ∷ ts) = is_short t && are_short ts

-- Returns texts that are within the limit, and otherwise the refusal.
abbrev pub short_texts : List (List ℕ) → Result (List (List ℕ)) OperationRefusal
short_texts ts = if are_short ts then Ok ts else Err refusal.Limit

-- Returns texts that are within the limits of a list and of a text, and otherwise the refusal.
abbrev pub within_texts : List (List ℕ) → Result (List (List ℕ)) OperationRefusal
within_texts ts = if nat_le (length ts) items then short_texts ts else Err refusal.Limit
