-- Defines which paths may name the build directory.
use Prim.Native.Char.{code}
use Rattle.std.specs.Prelude.{ℕ, Bool, not, ◌==◌, ◌&&◌, ◌||◌, nat_le, List, length, filter, codes}
use Rattle.std.specs.List.{join_with_byte, list_any}
use Rattle.std.specs.Str.{bytes_eq}
use Rattle.support.specs.paths.Below.{is_absolute}
use Rattle.support.specs.paths.Paths.{parts_of}

-- Holds if a part leads nowhere: it is empty or `.`.
abbrev pub is_idle : List ℕ → Bool
is_idle part = length part == 0 || bytes_eq part (codes ".")

-- Holds if a part leads out of the directory.
abbrev pub is_upward : List ℕ → Bool
is_upward part = bytes_eq part (codes "..")

-- Returns the parts of a path that lead somewhere.
abbrev pub leading_parts : List ℕ → List (List ℕ)
leading_parts path = filter (λ part. not (is_idle part)) (parts_of path)

-- Holds if no part is `..`, and there are 1 to 64 of them.
abbrev pub are_below : List (List ℕ) → Bool
are_below parts = not (list_any is_upward parts) && (nat_le 1 (length parts) && nat_le (length parts) 64)

-- Holds if a path may name a build directory: it is relative, and has 1 to 64 parts, none of which is `..`.
abbrev pub names_build_folder : List ℕ → Bool
names_build_folder path = not (is_absolute path) && are_below (leading_parts path)

-- Returns a path with only the parts that lead somewhere.
abbrev pub tidy_path : List ℕ → List ℕ
tidy_path path = join_with_byte (code "/") (leading_parts path)

-- Holds if a path has 1 to 64 parts, none of which is empty, `.` or `..`.
abbrev pub is_tidy_folder : List ℕ → Bool
is_tidy_folder path = are_below (parts_of path) && not (list_any is_idle (parts_of path))
