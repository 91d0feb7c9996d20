-- Defines how contracts see a tree of files on a disk. No program can know whether somebody writes the files during a run. So these
-- definitions are closed: a user of a tree can prove neither that it is steady nor that it isn't. Only the user of the program can know it.
pub mod Closed
use Rattle.std.specs.Prelude.{ℕ, Bool, false, List, []}
use Rattle.ports.specs.Tree.{TreeState}

-- Returns the files below a folder.
pub files_below : (folder : List ℕ) → List (List ℕ × List ℕ)
files_below folder = []

-- Returns whether these files stay unchanged.
pub are_steady : (folder : List ℕ) → Bool
are_steady folder = false

-- Returns the state of the files below a folder, given the count of the disk's failures.
abbrev pub disk_state : (folder : List ℕ) (failures : ℕ) → TreeState
disk_state folder failures = record { files = files_below folder; failures = failures; steady = are_steady folder }
