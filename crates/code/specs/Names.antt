-- Defines a table of names: a list without duplicates.
use Rattle.std.specs.Prelude.{ℕ, List, [], ◌∷◌, ◌++◌, map, Option, String, string_bytes, bytes_eq, position, if◌then◌else◌}
use Rattle.std.specs.List.{list_any}
use Rattle.std.specs.Global.{Global}

-- Returns the bytes of each of these strings.
abbrev pub texts : List (String Global) → List (List ℕ)
texts strings = map string_bytes strings

-- Returns the number of a name, and none if the table does not have it.
abbrev pub number_in : List ℕ → List (List ℕ) → Option ℕ
number_in name names = position (bytes_eq name) names

-- Returns the table with a name. A name that is present keeps its place; a new one goes last.
abbrev pub with_name : List ℕ → List (List ℕ) → List (List ℕ)
with_name name names = if list_any (bytes_eq name) names then names else names ++ name ∷ []
