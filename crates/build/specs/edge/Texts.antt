-- Defines texts as lists of their bytes, and lists of texts.
pub use Rattle.support.specs.Texts.{texts}
pub use Rattle.path_set.specs.Paths.{Path, Text, holds}
use Rattle.std.specs.Prelude.{ℕ, Bool, List, [], ◌∷◌, ◌++◌, bytes_eq, if◌then◌else◌}
use Rattle.std.specs.List.{list_any}

-- Appends the text, unless the list has it.
abbrev pub put_new : List Text → Text → List Text
put_new kept text = if holds text kept then kept else kept ++ text ∷ []

-- Appends the texts one after another, each unless the list has it.
abbrev pub put_all_new : List Text → List Text → List Text
put_all_new kept [] = kept
put_all_new kept (t ∷ ts) = put_all_new (put_new kept t) ts

-- Keeps the first of equal texts.
abbrev pub first_kept : List Text → List Text
first_kept ts = put_all_new [] ts
