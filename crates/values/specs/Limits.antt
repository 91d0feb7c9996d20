-- Defines how large a value may be.
use Rattle.std.specs.Prelude.{◌≡◌, ◌<◌, ◌≤◌, ◌++◌, ◌+◌, ℕ, Bool, true, ◌&&◌, nat_le, List, length, Result, Ok, Err, if◌then◌else◌}
use Rattle.support.specs.Limits.{items as most_items, levels as most_levels, weight as most_weight, text_bytes, is_short}
use Rattle.values.specs.declared.refusal.OperationRefusal.{OperationRefusal}
use Rattle.values.specs.declared.refusal.OperationRefusal.TheVariants as refusal
use Rattle.values.specs.Data.{Data, boolean, integer, text, list, dictionary, object, Items, Entries, count, entry_count}
use Rattle.values.specs.Weight.{items_weight, items_depth, entries_weight, entries_depth}

-- Holds if a list or a dictionary with this many items, this weight and this depth is within the limits.
abbrev pub is_within : ℕ → ℕ → ℕ → Bool
is_within items weight levels = nat_le items most_items && (nat_le weight most_weight && nat_le levels most_levels)

-- Holds if a list of these items is within the limits.
abbrev pub items_fit : Items → Bool
items_fit ds = is_within (count ds) (items_weight ds + 1) (items_depth ds + 1)

-- Holds if a dictionary of these entries is within the limits.
abbrev pub entries_fit : Entries → Bool
entries_fit es = is_within (entry_count es) (entries_weight es + 1) (entries_depth es + 1)

-- Holds if a value is within the limits.
abbrev pub fits : Data → Bool
fits (boolean b) = true
fits (integer z) = true
fits (text t) = is_short t
fits (list ds) = items_fit ds
fits (dictionary es) = entries_fit es
fits (object o) = true

-- Returns a text that is within the limit of its length, and otherwise the refusal.
abbrev pub within_bytes : List ℕ → Result (List ℕ) OperationRefusal
within_bytes t = if is_short t then Ok t else Err refusal.Limit

-- Holds if a text was extended by a piece, or if the longer text would have passed the limit.
abbrev pub Appends : List ℕ → List ℕ → List ℕ → Result (Unit {0}) OperationRefusal → Type 0
Appends before piece after (Ok done) = (after ≡ before ++ piece) × (length after ≤ text_bytes)
Appends before piece after (Err e) = (e ≡ refusal.Limit) × (text_bytes < length (before ++ piece))

-- Returns a value that is within the limits, and otherwise the refusal.
abbrev pub within : Data → Result Data OperationRefusal
within d = if fits d then Ok d else Err refusal.Limit
