-- Defines how two paths are joined.
use Prim.Native.Char.{code}
use Rattle.std.specs.Prelude.{ℕ, ◌-◌, Bool, false, ◌||◌, ◌==◌, List, [], ◌∷◌, ◌++◌, length, slice_index, codes, if◌then◌else◌}

-- Holds if a path begins with `/`.
abbrev pub is_absolute : List ℕ → Bool
is_absolute [] = false
is_absolute (b ∷ rest) = b == code "/"

-- Holds if the last byte is `/`.
abbrev pub ends_with_slash : List ℕ → Bool
ends_with_slash s = slice_index s (length s - 1) == code "/"

-- Returns two paths joined by `/`, and the second alone if it is absolute or the first is empty.
abbrev pub path_below : List ℕ → List ℕ → List ℕ
path_below s t = if length s == 0 || is_absolute t then t else (if ends_with_slash s then s ++ t else s ++ (codes "/" ++ t))
