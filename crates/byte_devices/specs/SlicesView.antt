-- Defines the view of a tree over slices.
use Rattle.std.specs.Prelude.{ℕ, true, List, map}
use Rattle.std.specs.Borrow.{Bor}
use Rattle.ports.specs.Tree.{TreeState}
use Rattle.byte_devices.specs.declared.tree.SliceTree.{SliceTree}

-- Returns the paths and the bytes of these pairs.
abbrev pub files_of : List (Bor (List ℕ) × Bor (List ℕ)) → List (List ℕ × List ℕ)
files_of files = map (λ file. (file.0.now, file.1.now)) files

-- Returns the state of the tree, which is always steady and never fails.
abbrev pub slice_tree_seen : SliceTree → TreeState
slice_tree_seen tree = record { files = files_of tree.files.entries; failures = 0; steady = true }
