-- Defines what may be at the path of a definition file.
use Rattle.std.specs.Prelude.{ℕ, Bool, true, false, List, length, nat_le, Option, Some, None}
use Rattle.world.specs.Deed.{Deed, give, ask, ◌>>=◌}
use Rattle.world.specs.DefinitionFiles.{most_bytes}

-- The result of a search: no file, a file that is longer than a definition file may be, or all bytes of a file.
pub data FoundData : Type 0 where
  nothing : FoundData
  too_long : FoundData
  bytes : List ℕ → FoundData

-- Returns the bytes of a file, or `too_long`, by whether it is short enough.
abbrev pub found_by : Bool → List ℕ → FoundData
found_by true bs = bytes bs
found_by false bs = too_long

-- Returns the result of a search, given the bytes of the file if there is one.
abbrev pub found_data : Option (List ℕ) → FoundData
found_data None = nothing
found_data (Some bs) = found_by (nat_le (length bs) most_bytes) bs

-- Returns the result of a search at a path, which counts as looked at.
unfoldable pub find : List ℕ → Deed FoundData
find path = do
  file ← ask path
  give (found_data file)
