-- Defines how a text is cut into words, as a shell does.
use Prim.Native.Char.{code}
use Rattle.std.specs.Prelude.{ℕ, Bool, ◌||◌, ◌==◌, List, [], ◌∷◌, ◌++◌, Option, Some, None, if◌then◌else◌}
use Rattle.std.specs.Char.{encode_utf8}
use Rattle.std.specs.Str.{chars}
use Rattle.syntax.specs.lexer.Bytes.{tab, newline, carriage_return, space, backslash, quote}
use Rattle.option_values.specs.declared.words.ShellState.{ShellState}
use Rattle.option_values.specs.declared.words.ShellState.TheVariants as place

-- Returns the code point of the double quote.
abbrev pub double_quote : ℕ
double_quote = code "\""

-- Returns whether the character separates words: a blank or a newline.
abbrev pub parts_words : ℕ → Bool
parts_words c = (c == space) || ((c == tab) || ((c == carriage_return) || (c == newline)))

-- Returns whether a backslash escapes the character between double quotes.
abbrev pub is_escapable : ℕ → Bool
is_escapable c = (c == double_quote) || (c == backslash)

-- The place of the next character, the word to which it may belong, and the words before it.
pub record Cut : Type 0 where
  pub place : ShellState
  pub word : List ℕ
  pub words : List (List ℕ)

-- Returns the state before the first character.
abbrev pub initial_cut : Cut
initial_cut = record { place = place.Between; word = []; words = [] }

-- Returns the state with another place. The word and the words before it stay as they are.
abbrev pub cut_at_place : Cut → ShellState → Cut
cut_at_place s p = record s { place = p }

-- Adds a character to the word.
abbrev pub cut_with_character : Cut → ShellState → ℕ → Cut
cut_with_character s p c = record s { place = p; word = s.word ++ encode_utf8 c }

-- Ends the word.
abbrev pub cut_after_word : Cut → Cut
cut_after_word s = record { place = place.Between; word = []; words = s.words ++ s.word ∷ [] }

-- Continues after a character outside quotes that begins or continues a word.
abbrev pub bare : Cut → ℕ → Cut
bare s c =
    if c == backslash then cut_at_place s place.Escaped
    else (if c == quote then cut_at_place s place.Single
    else (if c == double_quote then cut_at_place s place.Double
    else cut_with_character s place.Bare c))

-- Continues after one more character.
abbrev pub after_at : ShellState → Cut → ℕ → Cut
after_at place.Between s c = if parts_words c then s else bare s c
after_at place.Bare s c = if parts_words c then cut_after_word s else bare s c
after_at place.Escaped s c = cut_with_character s place.Bare c
after_at place.Single s c = if c == quote then cut_at_place s place.Bare else cut_with_character s place.Single c
after_at place.Double s c =
    if c == double_quote then cut_at_place s place.Bare
    else (if c == backslash then cut_at_place s place.DoubleEscaped
    else cut_with_character s place.Double c)
after_at place.DoubleEscaped s c =
    if is_escapable c then cut_with_character s place.Double c
    else cut_with_character (cut_with_character s place.Double backslash) place.Double c

-- Returns the state after one more character.
abbrev pub after : Cut → ℕ → Cut
after s c = after_at s.place s c

-- Returns the state after these characters.
abbrev pub cut_from : Cut → List ℕ → Cut
cut_from s [] = s
cut_from s (c ∷ cs) = cut_from (after s c) cs

-- Returns the words at the end of the text, unless the last character is a backslash or a quote is not closed.
abbrev pub ended_at : ShellState → Cut → Option (List (List ℕ))
ended_at place.Between s = Some s.words
ended_at place.Bare s = Some (s.words ++ s.word ∷ [])
ended_at _ s = None

-- Returns the words at the end of the text, if it may end here.
abbrev pub words_of_cut : Cut → Option (List (List ℕ))
words_of_cut s = ended_at s.place s

-- Returns the words of a text. Blanks and newlines separate them. Outside quotes a backslash yields the character after it. Single quotes
-- keep everything between them. So do double quotes, except that a backslash before a double quote or a backslash yields that character.
-- Pieces without a blank between them are one word, and two quotes alone are an empty one.
abbrev pub words_of : List ℕ → Option (List (List ℕ))
words_of text = words_of_cut (cut_from initial_cut (chars text))
