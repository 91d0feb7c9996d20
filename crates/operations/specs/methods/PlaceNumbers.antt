-- States what the numbers of placeholders mean.
use Rattle.std.specs.Prelude.{◌≡◌, ◌≤◌, ◌^◌, ℕ, List, length, slice_get, None, if◌then◌else◌}
use Rattle.std.specs.Str.Parse.{digits_value}
use Rattle.values.specs.Data.{Data}
use Rattle.values.specs.texts.Segments.{is_number}
use Rattle.operations.specs.methods.Formatted.{value_at}

-- States that a placeholder refers to the value at the number that its digits spell, however large. A number that no `usize` holds has no
-- value, since no list is that long.
abbrev pub PlacesCount : Type 0
PlacesCount = (values : List Data) (name : List ℕ) → length values ≤ 2 ^ 64
    → value_at values name ≡ (if is_number name then slice_get values (digits_value 10 name) else None)
