-- Defines the texts of tokens.
use Rattle.std.specs.Prelude.{◌≡◌, ℕ, zero, suc, ◌+◌, ◌-◌, Bool, true, false, ◌==◌, ◌||◌, ◌&&◌, not, nat_le, if◌then◌else◌, List, [], ◌∷◌}
use Rattle.std.specs.Prelude.{◌++◌, length, slice_index, slice_range, Option, Some, None, encode_utf8}
use Rattle.syntax.specs.declared.lexer.token.TokenKind.{TokenKind}
use Rattle.syntax.specs.declared.lexer.token.TokenKind.TheVariants as Kinds
use Rattle.syntax.specs.lexer.Bytes.{quote, backslash, lower_f, three_quotes}
use Rattle.syntax.specs.lexer.Escapes.{escape_at, is_character, IsEscape}
use Rattle.syntax.specs.lexer.Kinds.{is}

-- Returns whether the kind is that of a string.
abbrev pub is_string : TokenKind → Bool
is_string k = is k Kinds.String || (is k Kinds.FormatString || (is k Kinds.RawString || is k Kinds.RawFormatString))

-- Returns the number of the character that an escape names, and the escape's size. Without a character, returns a backslash and 0.
abbrev pub character : Option (ℕ × ℕ) → ℕ × ℕ
character None = (backslash, 0)
character (Some (code, n)) = if is_character code then (code, n) else (backslash, 0)

-- Returns the character that a backslash and these bytes name, and how many bytes belong to the escape. A backslash that begins no escape,
-- or one that names no character, is itself.
unfoldable pub escaped_by : List ℕ → ℕ × ℕ
escaped_by bs = character (escape_at bs)

-- Returns whether the byte is itself.
abbrev pub is_no_backslash : ℕ → Bool
is_no_backslash b = not (b == backslash)

-- Returns the text of these characters, without the first `skip` bytes, which belong to an earlier escape.
abbrev pub unescaped_behind : ℕ → List ℕ → List ℕ
unescaped_behind skip [] = []
unescaped_behind (suc n) (b ∷ bs) = unescaped_behind n bs
unescaped_behind zero (b ∷ bs) =
    if b == backslash then encode_utf8 (escaped_by bs).0 ++ unescaped_behind (escaped_by bs).1 bs
    else b ∷ unescaped_behind zero bs

-- Returns the text of the characters between quotes, with each escape replaced by the character that it names.
unfoldable pub unescaped_text : List ℕ → List ℕ
unescaped_text bs = unescaped_behind 0 bs

-- Returns whether the first `front` bytes end with a quote, and the last `back` bytes, which are others, begin with one.
abbrev pub is_framed : ℕ → ℕ → List ℕ → Bool
is_framed front back text =
    nat_le (front + back) (length text) && ((slice_index text (front - 1) == quote) && (slice_index text (length text - back) == quote))

-- Returns the text without its first `front` and last `back` bytes, or the whole text if it has no quotes there.
unfoldable pub text_between_quotes : ℕ → ℕ → List ℕ → List ℕ
text_between_quotes front back text = if is_framed front back text then slice_range text front (length text - back) else text

-- Returns the text of a string after its escapes, or that of a raw string between its quotes. The text of any other token is its slice.
abbrev pub text_of : TokenKind → List ℕ → List ℕ
text_of k text =
    if is k Kinds.String then unescaped_text (text_between_quotes 1 1 text)
    else (if is k Kinds.FormatString then unescaped_text (text_between_quotes 2 1 text)
    else (if is k Kinds.RawString then text_between_quotes 3 3 text
    else (if is k Kinds.RawFormatString then text_between_quotes 4 3 text
    else text)))

-- ---- the same as a relation

-- Holds if no escape that names a character begins here, after a backslash.
abbrev pub NoEscape : List ℕ → Type 0
NoEscape bs = (code : ℕ) (written rest : List ℕ) → bs ≡ written ++ rest → IsEscape code written rest → is_character code ≡ true → ⊥

-- Relates the characters between quotes to the text that they name.
pub data StandsFor : List ℕ → List ℕ → Type 0 where
  nothing : StandsFor [] []
  -- A byte other than a backslash is itself.
  itself : (b : ℕ) (bs text : List ℕ) → is_no_backslash b ≡ true → StandsFor bs text → StandsFor (b ∷ bs) (b ∷ text)
  -- A backslash with an escape that names a character is this character, in UTF-8.
  escape : (code : ℕ) (written bs text : List ℕ) → IsEscape code written bs → is_character code ≡ true → StandsFor bs text
      → StandsFor (backslash ∷ (written ++ bs)) (encode_utf8 code ++ text)
  -- A backslash is itself if no escape that names a character follows.
  kept : (bs text : List ℕ) → NoEscape bs → StandsFor bs text → StandsFor (backslash ∷ bs) (backslash ∷ text)

-- Relates a token's kind and slice to its text.
pub data TokenStandsFor : TokenKind → List ℕ → List ℕ → Type 0 where
  quoted : (inside text : List ℕ) → StandsFor inside text → TokenStandsFor Kinds.String (quote ∷ (inside ++ quote ∷ [])) text
  format : (inside text : List ℕ) → StandsFor inside text
      → TokenStandsFor Kinds.FormatString (lower_f ∷ quote ∷ (inside ++ quote ∷ [])) text
  raw : (inside : List ℕ) → TokenStandsFor Kinds.RawString (three_quotes ++ (inside ++ three_quotes)) inside
  raw_format : (inside : List ℕ) → TokenStandsFor Kinds.RawFormatString (lower_f ∷ (three_quotes ++ (inside ++ three_quotes))) inside
  other : (k : TokenKind) (text : List ℕ) → is_string k ≡ false → TokenStandsFor k text text
