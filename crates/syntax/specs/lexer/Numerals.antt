-- Defines the values of number tokens.
use Prim.Native.Char.{code}
use Rattle.std.specs.Prelude.{ℕ, ◌+◌, ◌-◌, ◌*◌, ◌||◌, List, [], ◌∷◌, ◌==◌, nat_lt, if◌then◌else◌}
use Rattle.syntax.specs.lexer.Bytes.{digit_zero}
use Rattle.syntax.specs.lexer.Numbers.{lower_o, lower_x, upper_o, upper_x}

-- Returns the value of a digit: 0 to 9, then the letters from 10 on.
abbrev pub digit : ℕ → ℕ
digit d =
    if nat_lt d (code "A") then d - code "0"
    else (if nat_lt d (code "a") then d - (code "A" - 10)
    else d - (code "a" - 10))

-- Returns the number that these digits spell in a base, after digits that spell n.
unfoldable pub number_in_base : ℕ → ℕ → List ℕ → ℕ
number_in_base base n [] = n
number_in_base base n (d ∷ ds) = number_in_base base (n * base + digit d) ds

-- Returns the base that the letter after a leading 0 names.
abbrev pub base_of : ℕ → ℕ
base_of letter =
    if (letter == lower_x) || (letter == upper_x) then 16
    else (if (letter == lower_o) || (letter == upper_o) then 8
    else 2)

-- Returns the number that the text after a leading 0 spells: 0 for no text, or the letter of a base and its digits.
abbrev pub behind_zero : List ℕ → ℕ
behind_zero [] = 0
behind_zero (letter ∷ digits) = number_in_base (base_of letter) 0 digits

-- Returns the number that the text of a number token spells.
abbrev pub magnitude : List ℕ → ℕ
magnitude [] = 0
magnitude (d ∷ ds) = if d == digit_zero then behind_zero ds else number_in_base 10 0 (d ∷ ds)
