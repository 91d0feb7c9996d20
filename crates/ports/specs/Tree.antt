-- Defines how contracts see a tree of files, and what a call records.
use Rattle.std.specs.Prelude.{◌≡◌, ℕ, ◌-◌, ◌<◌, ◌≤◌, Bool, IsTrue, List, [], ◌∷◌, take, drop, length, Option, Some, None, unwrap_or}
use Rattle.std.specs.Prelude.{if◌then◌else◌}
use Rattle.std.specs.Str.{bytes_eq}
use Rattle.ports.specs.Endings.{Ending, failures_after}

-- The state holds the files by their paths, the count of the device's failures, and whether the files stay unchanged.
pub record TreeState : Type 0 where
  pub files : List (List ℕ × List ℕ)
  pub failures : ℕ
  -- Whether the files stay unchanged during a run.
  pub steady : Bool

-- Returns the bytes of the file at this path, or `None` if there is no file.
abbrev pub file_at : List (List ℕ × List ℕ) → List ℕ → Option (List ℕ)
file_at [] path = None
file_at (file ∷ files) path = if bytes_eq file.0 path then Some file.1 else file_at files path

-- Returns the bytes of the file at this path, or no bytes if there is no file.
abbrev pub bytes_at : List (List ℕ × List ℕ) → List ℕ → List ℕ
bytes_at files path = unwrap_or (file_at files path) []

-- Holds if both have the same bytes, or no file, at each path.
abbrev pub SameFiles : List (List ℕ × List ℕ) → List (List ℕ × List ℕ) → Type 0
SameFiles files others = (path : List ℕ) → file_at others path ≡ file_at files path

-- A steady tree stays unchanged.
pub record Stays (old new : TreeState) : Type 0 where
  pub steady : IsTrue old.steady → IsTrue new.steady
  pub files : IsTrue old.steady → new.files ≡ old.files

-- A call left a steady tree unchanged, and counted a failure if it failed.
pub record Asks (old : TreeState) (ending : Ending) (new : TreeState) : Type 0 where
  pub stays : Stays old new
  pub failures : new.failures ≡ failures_after old.failures ending

-- The first n bytes of a buffer of this length are those of the file at this position, and there is at least one if any are left.
pub record Reads (file : List ℕ) (at room n : ℕ) (buffer : List ℕ) : Type 0 where
  -- The call read the bytes of the file at the position.
  pub bytes : take n buffer ≡ take n (drop at file)
  -- The call read no more bytes than the file has left.
  pub left : n ≤ length file - at
  -- The call read at least one byte if the buffer has room and the file has bytes left.
  pub some : 0 < room → at < length file → 0 < n
