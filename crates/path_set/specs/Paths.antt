-- Defines lists of paths, and the first path that occurs twice.
use Rattle.std.specs.Prelude.{◌≡◌, ℕ, Bool, List, [], ◌∷◌, ◌++◌, bytes_eq, Option, Some, None, String, if◌then◌else◌}
use Rattle.std.specs.Global.{Global}
use Rattle.std.specs.List.{list_any}

-- A text is the list of its bytes.
abbrev pub Text : Type 0
Text = List ℕ

-- A path in the source tree or in the build directory. Slashes separate its parts.
abbrev pub Path : Type 0
Path = List ℕ

-- Returns whether the text is one of these.
abbrev pub holds : Text → List Text → Bool
holds text texts = list_any (bytes_eq text) texts

-- Returns the first of the paths that was seen before or occurs twice.
abbrev pub first_taken : List Path → List Path → Option Path
first_taken seen [] = None
first_taken seen (p ∷ ps) = if holds p seen then Some p else first_taken (seen ++ p ∷ []) ps

-- The second list is the first and more.
pub record IsFront (old new : List (String Global)) : Type 0 where
  pub more : List (String Global)
  pub is : new ≡ old ++ more
