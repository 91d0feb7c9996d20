-- Defines the keyword `version` of a shared library: one to three numbers separated by dots.
use Prim.Native.Char.{code}
use Rattle.std.specs.Prelude.{ℕ, nat_le, nat_lt, Bool, ◌&&◌, ◌==◌, List, length}
use Rattle.std.specs.Char.{is_ascii_digit}
use Rattle.std.specs.List.{list_all, slice_split}

-- Holds if a part is at least one digit and nothing else.
abbrev pub is_number : List ℕ → Bool
is_number part = nat_lt 0 (length part) && list_all is_ascii_digit part

-- Holds if there are at most three parts, and each is a number.
abbrev pub are_numbers : List (List ℕ) → Bool
are_numbers parts = nat_le (length parts) 3 && list_all is_number parts

-- Holds if a text is one to three numbers separated by dots.
abbrev pub is_library_version : List ℕ → Bool
is_library_version t = are_numbers (slice_split (λ b. b == code ".") t)
