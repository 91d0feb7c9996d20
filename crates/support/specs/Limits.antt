-- Defines the limits of a run, and the range of integers.
use Rattle.std.specs.Prelude.{ℕ, ℤ, pos, negsuc, ◌^◌, nat_lt, nat_le, Bool, List, length}

-- Returns the most bytes of a text and of a definition file.
abbrev pub text_bytes : ℕ
text_bytes = 16777216

-- Holds if a text has at most `text_bytes` bytes.
abbrev pub is_short : List ℕ → Bool
is_short text = nat_le (length text) text_bytes

-- Returns the most items of a list or a dictionary.
abbrev pub items : ℕ
items = 65536

-- Returns the most levels of nested lists and dictionaries.
abbrev pub levels : ℕ
levels = 64

-- Returns the greatest weight of a value.
abbrev pub weight : ℕ
weight = 33554432

-- Returns the most folders that are entered, including the root.
abbrev pub folders : ℕ
folders = 4096

-- Returns the most bytes of a line of a template, including its line ending.
abbrev pub line_bytes : ℕ
line_bytes = 65536

-- Holds if an integer is from -2^127 to 2^127 - 1. Here `pos n` is n, and `negsuc n` is -(n + 1).
abbrev pub is_in_range : ℤ → Bool
is_in_range (pos n) = nat_lt n (2 ^ 127)
is_in_range (negsuc n) = nat_lt n (2 ^ 127)
