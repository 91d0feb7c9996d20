-- States which paths the project notes.
use Rattle.std.specs.Prelude.{◌≡◌, ℕ, Bool, true, not, List, filter, is_some}
use Rattle.std.specs.List.{list_all}
use Rattle.build.specs.edge.Texts.{first_kept}
use Rattle.ports.specs.Tree.{file_at}
use Rattle.world.specs.Deed.{Files}
use Rattle.world.specs.World.{World, noted_in}

-- Holds if the tree has a file with this path.
abbrev pub is_file : Files → List ℕ → Bool
is_file files path = is_some (file_at files path)

-- Holds if the tree has no file with this path.
abbrev pub is_no_file : Files → List ℕ → Bool
is_no_file files path = not (is_file files path)

-- Holds if the project notes each path that was looked at, once, in the order of the first look. Paths with a file are noted as present,
-- the others as absent.
abbrev pub NotesLooks : Files → World → Type 0
NotesLooks files w =
    noted_in w.facts.project ≡ (first_kept (filter (is_file files) w.looked), first_kept (filter (is_no_file files) w.looked))

-- Holds if each path noted as present is that of a file in the tree.
abbrev pub PresentAreFiles : Files → World → Type 0
PresentAreFiles files w = list_all (is_file files) w.facts.project.present ≡ true
