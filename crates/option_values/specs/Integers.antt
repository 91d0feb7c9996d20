-- Defines texts that spell integers.
use Rattle.std.specs.Prelude.{ℕ, ℤ, Bool, true, false, ◌&&◌, ◌==◌, nat_lt, int_le, List, [], ◌∷◌, length, Option, Some, None, if◌then◌else◌}
use Rattle.std.specs.Option.{option_and_then}
use Rattle.std.specs.Str.{all_ascii_digits}
use Rattle.std.specs.Str.Parse.{digits_value}
use Rattle.syntax.specs.lexer.Bytes.{minus}
use Rattle.machine_file.specs.Numbers as machine

-- Returns whether the first byte of the text is a minus sign.
abbrev pub is_negative : List ℕ → Bool
is_negative [] = false
is_negative (b ∷ bs) = b == minus

-- Returns the text after a minus sign, if there is one.
abbrev pub magnitude : List ℕ → List ℕ
magnitude [] = []
magnitude (b ∷ bs) = if b == minus then bs else b ∷ bs

-- Returns whether the text is at least one digit after at most one minus sign. Leading zeros and a minus sign before a zero are allowed.
abbrev pub is_integer : List ℕ → Bool
is_integer text = nat_lt 0 (length (magnitude text)) && all_ascii_digits (magnitude text)

-- Returns the integer of 64 bits that a text spells.
abbrev pub integer_of : List ℕ → Option ℤ
integer_of text =
    if is_integer text then machine.integer_of (is_negative text) (digits_value 10 (magnitude text)) else None

-- Returns whether the number is at least the lower bound, if there is one.
abbrev pub is_no_less : Option ℤ → ℤ → Bool
is_no_less None number = true
is_no_less (Some least) number = int_le least number

-- Returns whether the number is at most the upper bound, if there is one.
abbrev pub is_no_greater : Option ℤ → ℤ → Bool
is_no_greater None number = true
is_no_greater (Some greatest) number = int_le number greatest

-- Returns whether a number is within bounds. Each bound may be absent.
abbrev pub is_within : Option ℤ → Option ℤ → ℤ → Bool
is_within least greatest number = is_no_less least number && is_no_greater greatest number

-- Returns the number if it is within these bounds, and none otherwise. Each bound may be absent.
abbrev pub bounded_integer : Option ℤ → Option ℤ → ℤ → Option ℤ
bounded_integer least greatest number = if is_within least greatest number then Some number else None

-- Returns the integer that a text spells, if it is within these bounds.
abbrev pub integer_within : Option ℤ → Option ℤ → List ℕ → Option ℤ
integer_within least greatest text = option_and_then (bounded_integer least greatest) (integer_of text)
