-- Defines what a tree gave of a file, by the calls that were made: whether it is steady or not, it gave what its calls returned.
use Rattle.std.specs.Prelude.{◌≡◌, ℕ, ◌+◌, ◌<◌, ◌≤◌, List, [], ◌++◌, length}

-- The tree gave these bytes of a file piece by piece, from its start, after a call returned its size. Each call asked for the bytes that
-- directly follow the earlier ones, and for none after the size. `gives` records one call.
pub data Given {T : Type 0} (gives : T → List ℕ → ℕ → ℕ → List ℕ → T → Type 0) (path : List ℕ) (size : ℕ) (start : T)
    : List ℕ → T → Type 0 where
  none : Given gives path size start [] start
  more : (bytes piece : List ℕ) (room : ℕ) (t u : T) → Given gives path size start bytes t → length bytes + room ≤ size
      → gives t path (length bytes) room piece u → length piece ≤ room → Given gives path size start (bytes ++ piece) u

-- The tree gave all bytes of a file: as many as the size, or fewer if a call for more gave none, so that the file ends there.
pub data GivenWhole {T : Type 0} (gives : T → List ℕ → ℕ → ℕ → List ℕ → T → Type 0) (path : List ℕ) (size : ℕ) (start : T)
    : List ℕ → T → Type 0 where
  full : (bytes : List ℕ) (t : T) → Given gives path size start bytes t → length bytes ≡ size → GivenWhole gives path size start bytes t
  ended : (bytes : List ℕ) (room : ℕ) (t u : T) → Given gives path size start bytes t → 0 < room → length bytes + room ≤ size
      → gives t path (length bytes) room [] u → GivenWhole gives path size start bytes u
