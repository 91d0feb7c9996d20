-- Defines how numbers are written.
use Prim.Native.Char.{code}
use Rattle.std.specs.Prelude.{ℕ, Bool, true, false, List, [], ◌∷◌, ◌==◌, ◌||◌, if◌then◌else◌}
use Rattle.std.specs.Char.{is_ascii_digit, is_ascii_hexdigit}
use Rattle.std.specs.Int.{is_in_range}
use Rattle.std.specs.List.{list_all}
use Rattle.syntax.specs.lexer.Bytes.{digit_zero}

-- Returns the byte of `b`: `0b` begins a binary number.
abbrev pub lower_b : ℕ
lower_b = code "b"

-- Returns the byte of `o`: `0o` begins an octal number.
abbrev pub lower_o : ℕ
lower_o = code "o"

-- Returns the byte of `x`: `0x` begins a hexadecimal number.
abbrev pub lower_x : ℕ
lower_x = code "x"

-- Returns the byte of `B`: `0B` begins a binary number.
abbrev pub upper_b : ℕ
upper_b = code "B"

-- Returns the byte of `O`: `0O` begins an octal number.
abbrev pub upper_o : ℕ
upper_o = code "O"

-- Returns the byte of `X`: `0X` begins a hexadecimal number.
abbrev pub upper_x : ℕ
upper_x = code "X"

-- Returns whether the byte is a digit from 0 to 7.
abbrev pub is_octal_digit : ℕ → Bool
is_octal_digit d = is_in_range (code "0") (code "7") d

-- Returns whether the byte is the digit 0 or 1.
abbrev pub is_binary_digit : ℕ → Bool
is_binary_digit d = is_in_range (code "0") (code "1") d

-- Returns whether this is a digit of the base that the letter names.
abbrev pub is_digit_of : ℕ → ℕ → Bool
is_digit_of letter d =
    if (letter == lower_x) || (letter == upper_x) then is_ascii_hexdigit d
    else (if (letter == lower_o) || (letter == upper_o) then is_octal_digit d
    else (if (letter == lower_b) || (letter == upper_b) then is_binary_digit d
    else false))

-- Returns whether this may follow a leading 0: nothing, or the letter of a base and at least one of its digits.
abbrev pub is_behind_zero : List ℕ → Bool
is_behind_zero [] = true
is_behind_zero (letter ∷ []) = false
is_behind_zero (letter ∷ d ∷ digits) = list_all (is_digit_of letter) (d ∷ digits)

-- Returns whether the text is 0, a decimal number without a leading 0, or a number of another base.
abbrev pub is_number : List ℕ → Bool
is_number [] = false
is_number (a ∷ others) = if a == digit_zero then is_behind_zero others else list_all is_ascii_digit (a ∷ others)
