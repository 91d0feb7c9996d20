-- Defines which sources must be present as files.
use Rattle.std.specs.Prelude.{List, [], ◌∷◌}
use Rattle.sources.specs.Sources.{NamedData, tree, built, outputs, output}
use Rattle.world.specs.Deed.{Deed, give, ◌>>=◌, required_file}

-- Refuses a source that is a missing file in the source directory (E14).
unfoldable pub file_required : NamedData → Deed (Unit {0})
file_required (tree path) = required_file path
file_required (built path) = give tt
file_required (outputs number) = give tt
file_required (output target place) = give tt

-- Refuses the call at the first of these sources that is missing.
unfoldable pub files_required : List NamedData → Deed (Unit {0})
files_required [] = give tt
files_required (n ∷ ns) = do
  _ ← file_required n
  files_required ns
