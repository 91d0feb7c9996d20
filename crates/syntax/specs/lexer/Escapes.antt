-- Defines the escapes of a string that is not raw.
use Prim.Native.Char.{code}
use Rattle.std.specs.Prelude.{◌≡◌, ℕ, zero, suc, ◌+◌, ◌*◌, ◌<◌, ◌≤◌, Bool, true, false, ◌==◌, ◌||◌, not, nat_lt, if◌then◌else◌, List, []}
use Rattle.std.specs.Prelude.{◌∷◌, ◌++◌, length, fold, Option, Some, None}
use Rattle.std.specs.Char.{digit_value, is_digit}
use Rattle.std.specs.Int.{is_in_range}
use Rattle.std.specs.List.{list_all}
use Rattle.syntax.specs.lexer.Bytes.{quote, backslash, lower_f}
use Rattle.syntax.specs.lexer.Numbers.{lower_b, lower_x, is_octal_digit}

-- Returns the byte of `U`, which begins the escape of a character by eight hexadecimal digits.
abbrev pub upper_u : ℕ
upper_u = code "U"

-- Returns the byte of `a`, which names the alert character (7) in an escape.
abbrev pub lower_a : ℕ
lower_a = code "a"

-- Returns the byte of `n`, which names the newline (10) in an escape.
abbrev pub lower_n : ℕ
lower_n = code "n"

-- Returns the byte of `r`, which names the carriage return (13) in an escape.
abbrev pub lower_r : ℕ
lower_r = code "r"

-- Returns the byte of `t`, which names the tab (9) in an escape.
abbrev pub lower_t : ℕ
lower_t = code "t"

-- Returns the byte of `u`, which begins the escape of a character by four hexadecimal digits.
abbrev pub lower_u : ℕ
lower_u = code "u"

-- Returns the byte of `v`, which names the vertical tab (11) in an escape.
abbrev pub lower_v : ℕ
lower_v = code "v"

-- Returns the character that a backslash and this one byte name.
abbrev pub control : ℕ → Option ℕ
control b =
    if b == backslash then Some backslash
    else (if b == quote then Some quote
    else (if b == lower_a then Some (code "\u{7}")
    else (if b == lower_b then Some (code "\u{8}")
    else (if b == lower_t then Some (code "\t")
    else (if b == lower_n then Some (code "\n")
    else (if b == lower_v then Some (code "\u{b}")
    else (if b == lower_f then Some (code "\u{c}")
    else (if b == lower_r then Some (code "\r")
    else None))))))))

-- Returns how many hexadecimal digits must follow this byte.
abbrev pub digit_count : ℕ → Option ℕ
digit_count b = if b == lower_x then Some 2 else (if b == lower_u then Some 4 else (if b == upper_u then Some 8 else None))

-- Returns the number that `value` and n hexadecimal digits at the front write, or `None` if there are fewer.
abbrev pub hexadecimal : ℕ → ℕ → List ℕ → Option ℕ
hexadecimal zero value bs = Some value
hexadecimal (suc n) value [] = None
hexadecimal (suc n) value (b ∷ bs) = if is_digit b 16 then hexadecimal n (16 * value + digit_value b) bs else None

-- Returns the number that `value` and the octal digits at the front write, n at most, and how many digits there are, added to `size`.
abbrev pub octal : ℕ → ℕ → ℕ → List ℕ → ℕ × ℕ
octal zero value size bs = (value, size)
octal (suc n) value size [] = (value, size)
octal (suc n) value size (b ∷ bs) = if is_octal_digit b then octal n (8 * value + digit_value b) (size + 1) bs else (value, size)

-- Returns the number that an escape names, and the bytes n that the escape has after the backslash. Returns none if it names no number.
abbrev pub escape_of_size : ℕ → Option ℕ → Option (ℕ × ℕ)
escape_of_size n None = None
escape_of_size n (Some number) = Some (number, n)

-- Returns the escape that byte b begins, with n hexadecimal digits at the front of `bs` if n is given. Returns `None` if there is no such
-- escape.
abbrev pub named_escape : ℕ → Option ℕ → List ℕ → Option (ℕ × ℕ)
named_escape b None bs = escape_of_size 1 (control b)
named_escape b (Some n) bs = escape_of_size (n + 1) (hexadecimal n 0 bs)

-- Returns the number that an escape names, and how many bytes it has after the backslash. Returns `None` if the backslash is itself. Each
-- escape needs all of its digits, except the octal one, which needs one to three.
unfoldable pub escape_at : List ℕ → Option (ℕ × ℕ)
escape_at [] = None
escape_at (b ∷ bs) = if is_octal_digit b then Some (octal 3 0 0 (b ∷ bs)) else named_escape b (digit_count b) bs

-- Returns whether a character has this number: at most 10FFFF, and no surrogate.
abbrev pub is_character : ℕ → Bool
is_character number = nat_lt number 0xD800 || is_in_range 0xE000 0x10FFFF number

-- Returns whether an escape names a number that no character has. It is false if there is no escape.
abbrev pub names_none : Option (ℕ × ℕ) → Bool
names_none None = false
names_none (Some (number, n)) = not (is_character number)

-- Returns whether these bytes, after a backslash, form an escape that names no character.
abbrev pub is_bad_escape : List ℕ → Bool
is_bad_escape bs = names_none (escape_at bs)

-- ---- the same as a relation

-- Returns the number that these digits write in a base.
abbrev pub number_of : ℕ → List ℕ → ℕ
number_of base digits = fold (λ value d. base * value + digit_value d) 0 digits

-- Returns whether the first byte is an octal digit. It is false if there is no byte.
abbrev pub begins_octal : List ℕ → Bool
begins_octal [] = false
begins_octal (b ∷ rest) = is_octal_digit b

-- The text after a backslash is an escape that names the number, followed by `rest`. It is one character, a letter with as many hexadecimal
-- digits as it needs, or one to three octal digits. It has fewer than three only if no other octal digit follows.
pub data IsEscape : ℕ → List ℕ → List ℕ → Type 0 where
  -- A byte that names a control character, a backslash or a quote needs no digits.
  alone : (b number : ℕ) (rest : List ℕ) → control b ≡ Some number → IsEscape number (b ∷ []) rest
  -- The letter `x`, `u` or `U` precedes 2, 4 or 8 hexadecimal digits.
  sixteen : (b : ℕ) (digits rest : List ℕ) → digit_count b ≡ Some (length digits) → list_all (λ d. is_digit d 16) digits ≡ true
      → IsEscape (number_of 16 digits) (b ∷ digits) rest
  -- One to three octal digits follow the backslash.
  eight : (digits rest : List ℕ) → 0 < length digits → length digits ≤ 3 → list_all is_octal_digit digits ≡ true
      → (length digits < 3 → begins_octal rest ≡ false) → IsEscape (number_of 8 digits) digits rest

-- Holds if each escape that begins here, after a backslash, names a character.
abbrev pub NamesCharacters : List ℕ → Type 0
NamesCharacters bs = (number : ℕ) (written rest : List ℕ) → bs ≡ written ++ rest → IsEscape number written rest → is_character number ≡ true
