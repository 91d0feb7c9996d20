-- Defines the bytes that tokens are made of.
use Prim.Native.Char.{code}
use Rattle.std.specs.Prelude.{ℕ, Bool, true, false, List, [], ◌∷◌, ◌==◌, ◌||◌, ◌&&◌, not, nat_lt, if◌then◌else◌, count_by, codes}
use Rattle.std.specs.Char.{is_ascii_alphabetic, is_ascii_digit}
use Rattle.std.specs.List.{list_all}

-- Returns the byte of a tab.
abbrev pub tab : ℕ
tab = code "\t"

-- Returns the byte of a newline.
abbrev pub newline : ℕ
newline = code "\n"

-- Returns the byte of a carriage return.
abbrev pub carriage_return : ℕ
carriage_return = code "\r"

-- Returns the byte of a space.
abbrev pub space : ℕ
space = code " "

-- Returns the byte of `!`.
abbrev pub exclamation : ℕ
exclamation = code "!"

-- Returns the byte of `#`, which begins a comment.
abbrev pub hash : ℕ
hash = code "#"

-- Returns the byte of `%`.
abbrev pub percent : ℕ
percent = code "%"

-- Returns the byte of the single quote, which begins and ends a string.
abbrev pub quote : ℕ
quote = code "'"

-- Returns the byte of `(`.
abbrev pub open_parenthesis : ℕ
open_parenthesis = code "("

-- Returns the byte of `)`.
abbrev pub close_parenthesis : ℕ
close_parenthesis = code ")"

-- Returns the byte of `*`.
abbrev pub star : ℕ
star = code "*"

-- Returns the byte of `+`.
abbrev pub plus : ℕ
plus = code "+"

-- Returns the byte of `,`.
abbrev pub comma : ℕ
comma = code ","

-- Returns the byte of `-`.
abbrev pub minus : ℕ
minus = code "-"

-- Returns the byte of `.`.
abbrev pub dot : ℕ
dot = code "."

-- Returns the byte of `/`.
abbrev pub slash : ℕ
slash = code "/"

-- Returns the byte of the digit `0`.
abbrev pub digit_zero : ℕ
digit_zero = code "0"

-- Returns the byte of `:`.
abbrev pub colon : ℕ
colon = code ":"

-- Returns the byte of `<`.
abbrev pub less : ℕ
less = code "<"

-- Returns the byte of `=`.
abbrev pub equals : ℕ
equals = code "="

-- Returns the byte of `>`.
abbrev pub greater : ℕ
greater = code ">"

-- Returns the byte of `?`.
abbrev pub question : ℕ
question = code "?"

-- Returns the byte of `[`.
abbrev pub open_bracket : ℕ
open_bracket = code "["

-- Returns the byte of the backslash.
abbrev pub backslash : ℕ
backslash = code "\\"

-- Returns the byte of `]`.
abbrev pub close_bracket : ℕ
close_bracket = code "]"

-- Returns the byte of `_`.
abbrev pub underscore : ℕ
underscore = code "_"

-- Returns the byte of the letter `f`, which begins an f-string.
abbrev pub lower_f : ℕ
lower_f = code "f"

-- Returns the byte of `{`.
abbrev pub open_brace : ℕ
open_brace = code "{"

-- Returns the byte of `}`.
abbrev pub close_brace : ℕ
close_brace = code "}"

-- Returns whether the byte is a letter or an underscore.
abbrev pub is_letter : ℕ → Bool
is_letter b = is_ascii_alphabetic b || (b == underscore)

-- Returns whether the byte can follow the first byte of a word.
abbrev pub continues_word : ℕ → Bool
continues_word b = is_letter b || is_ascii_digit b

-- Returns whether neither a letter, a digit nor an underscore is next.
abbrev pub ends_word : List ℕ → Bool
ends_word [] = true
ends_word (b ∷ rest) = not (continues_word b)

-- Returns whether the byte is itself between the quotes of a string.
abbrev pub is_plain : ℕ → Bool
is_plain b = not ((b == quote) || (b == backslash))

-- Returns whether the byte is a blank, with `depth` brackets open. A newline is a blank inside brackets.
abbrev pub is_blank : ℕ → ℕ → Bool
is_blank depth b = if b == newline then nat_lt 0 depth else (b == space) || (b == tab) || (b == carriage_return)

-- Returns whether the byte can be in a comment.
abbrev pub in_line : ℕ → Bool
in_line b = not (b == newline)

-- Returns whether the text is blanks, followed by an optional comment.
abbrev pub is_line_rest : List ℕ → Bool
is_line_rest [] = true
is_line_rest (b ∷ rest) = if b == hash then list_all in_line rest else (is_blank 0 b && is_line_rest rest)

-- Returns the number of newlines in a text.
abbrev pub newlines : List ℕ → ℕ
newlines = count_by (λ b. b == newline)

-- Returns the quotes with which a raw string begins and ends.
abbrev pub three_quotes : List ℕ
three_quotes = codes "'''"

-- Returns whether a raw string begins or ends.
abbrev pub opens_raw : List ℕ → Bool
opens_raw (a ∷ b ∷ c ∷ more) = (a == quote) && (b == quote) && (c == quote)
opens_raw _ = false

-- Returns whether an f-string begins.
abbrev pub opens_format : List ℕ → Bool
opens_format (a ∷ b ∷ more) = (a == lower_f) && (b == quote)
opens_format _ = false
