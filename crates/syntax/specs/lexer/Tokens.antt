-- Defines the tokens of a source.
use Rattle.std.specs.Prelude.{◌≡◌, ◌≢◌, ℕ, ◌+◌, ◌≤◌, if◌then◌else◌, Bool, true, false, ◌==◌, List, [], ◌∷◌, ◌++◌, length, drop, EachIndex}
use Rattle.std.specs.Prelude.{Some}
use Rattle.std.specs.List.{list_all}
use Rattle.syntax.specs.declared.lexer.token.TokenKind.{TokenKind}
use Rattle.syntax.specs.declared.lexer.token.TokenKind.TheVariants as Kinds
use Rattle.syntax.specs.lexer.Bytes.{quote, hash, backslash, newline, lower_f, is_letter, continues_word, ends_word}
use Rattle.syntax.specs.lexer.Bytes.{is_plain, is_blank, in_line}
use Rattle.syntax.specs.lexer.Bytes.{is_line_rest, newlines, three_quotes, opens_raw, opens_format}
use Rattle.syntax.specs.lexer.Escapes.{NamesCharacters}
use Rattle.syntax.specs.lexer.Kinds.{word_kind, format_kind, symbol_kind, depth_after}
use Rattle.syntax.specs.lexer.Lexeme.{Lexeme}
use Rattle.syntax.specs.lexer.Numbers.{is_number}

-- ---- one token

-- Returns whether the text is letters, digits and underscores, and does not begin with a digit.
abbrev pub is_word : List ℕ → Bool
is_word [] = false
is_word (a ∷ others) = if is_letter a then list_all continues_word others else false

-- Holds for the characters between the quotes of a string that is not raw. A quote occurs only after a backslash, and a byte follows each
-- backslash. No escape has a number that no character has.
pub data AreCharacters : List ℕ → Type 0 where
  no_more : AreCharacters []
  plain : (b : ℕ) (text : List ℕ) → is_plain b ≡ true → AreCharacters text → AreCharacters (b ∷ text)
  escaped : (b : ℕ) (text : List ℕ) → NamesCharacters (b ∷ text) → AreCharacters text → AreCharacters (backslash ∷ b ∷ text)

-- The text is a string of the kind, without an `f` before it, and `rest` directly follows it. Three quotes open a raw string, never an
-- empty string. A raw string ends with the first three quotes after those that open it.
pub data IsString : TokenKind → List ℕ → List ℕ → Type 0 where
  quoted : (inside rest : List ℕ) → AreCharacters inside → opens_raw (quote ∷ (inside ++ quote ∷ rest)) ≡ false
      → IsString Kinds.String (quote ∷ (inside ++ quote ∷ [])) rest
  raw : (inside rest : List ℕ) → EachIndex inside (λ i. opens_raw (drop i (inside ++ three_quotes)) ≡ false)
      → IsString Kinds.RawString (three_quotes ++ (inside ++ three_quotes)) rest

-- The text is a token of the kind, and `rest` directly follows it. An `f` that opens an f-string is no name. No letter, digit or underscore
-- directly follows a number.
pub data IsToken : TokenKind → List ℕ → List ℕ → Type 0 where
  word : (text rest : List ℕ) → is_word text ≡ true → opens_format (text ++ rest) ≡ false → IsToken (word_kind text) text rest
  number : (text rest : List ℕ) → is_number text ≡ true → ends_word rest ≡ true → IsToken Kinds.Number text rest
  string : (k : TokenKind) (text rest : List ℕ) → IsString k text rest → IsToken k text rest
  format : (k : TokenKind) (text rest : List ℕ) → IsString k text rest → IsToken (format_kind k) (lower_f ∷ text) rest
  symbol : (k : TokenKind) (text rest : List ℕ) → symbol_kind text ≡ Some k → IsToken k text rest

-- Holds if no token begins the source.
abbrev pub NoToken : List ℕ → Type 0
NoToken source = (k : TokenKind) (text rest : List ℕ) → source ≡ text ++ rest → IsToken k text rest → ⊥

-- ---- between two tokens

-- Returns whether the line ends here.
abbrev pub ends_line : List ℕ → Bool
ends_line [] = true
ends_line (b ∷ rest) = b == newline

-- The text is blanks, comments and continuations, with `depth` brackets open and `rest` after it. A comment extends to the end of its line.
-- A continuation is a backslash, blanks, an optional comment, and the newline.
pub data IsGap (depth : ℕ) (rest : List ℕ) : List ℕ → Type 0 where
  nothing : IsGap depth rest []
  blank : (b : ℕ) (text : List ℕ) → is_blank depth b ≡ true → IsGap depth rest text → IsGap depth rest (b ∷ text)
  comment : (inside text : List ℕ) → list_all in_line inside ≡ true → ends_line (text ++ rest) ≡ true → IsGap depth rest text
      → IsGap depth rest (hash ∷ (inside ++ text))
  continued : (inside text : List ℕ) → is_line_rest inside ≡ true → IsGap depth rest text
      → IsGap depth rest (backslash ∷ (inside ++ newline ∷ text))

-- Holds if neither a blank, a comment nor a continuation begins the source.
abbrev pub NoGap : ℕ → List ℕ → Type 0
NoGap depth source = (b : ℕ) (text rest : List ℕ) → source ≡ b ∷ (text ++ rest) → IsGap depth rest (b ∷ text) → ⊥

-- ---- the tokens of a source

-- A place in a source: the rest from there on, its line, and how many brackets are open.
pub record Place : Type 0 where
  pub rest : List ℕ
  pub line : ℕ
  pub depth : ℕ

-- Returns the place at the beginning of a source: on line 1, with no bracket open.
abbrev pub start : List ℕ → Place
start source = record { rest = source; line = 1; depth = 0 }

-- The blanks, comments and continuations from a place on end at `to`.
pub record Skips (from to : Place) : Type 0 where
  -- The bytes between the places.
  pub gap : List ℕ
  pub parts : from.rest ≡ gap ++ to.rest
  -- The bytes are blanks, comments and continuations.
  pub between : IsGap from.depth to.rest gap
  -- No more of these follow.
  pub ends : NoGap from.depth to.rest
  -- Each newline in the bytes begins another line.
  pub line : to.line ≡ from.line + newlines gap
  -- No bracket is opened or closed.
  pub depth : to.depth ≡ from.depth

-- `t` is the longest token that begins at a place, and `after` is the place after it.
pub record IsNext (at : Place) (t : Lexeme) (after : Place) : Type 0 where
  -- The bytes at the place begin with the token.
  pub parts : at.rest ≡ t.text ++ after.rest
  pub token : IsToken t.kind t.text after.rest
  -- Any other token that begins here is no longer.
  pub longest : (k : TokenKind) (text rest : List ℕ) → at.rest ≡ text ++ rest → IsToken k text rest → length text ≤ length t.text
  -- The token has the line on which it begins.
  pub here : t.line ≡ at.line
  -- Each newline in the token begins another line.
  pub line : after.line ≡ at.line + newlines t.text
  -- An opening bracket adds a level, and a closing bracket removes one if one is open.
  pub depth : after.depth ≡ depth_after t.kind at.depth

-- Holds if the tokens are in order from one place to another, at which no gap begins, with only gaps between them.
abbrev pub Spans : Place → List Lexeme → Place → Type 0
Spans from [] to = Skips from to
Spans from (t ∷ ts) to = (at : Place) × (after : Place) × Skips from at × IsNext at t after × Spans after ts to

-- The source consists of these tokens, in order, with gaps between them and around them.
pub record AreTokens (source : List ℕ) (ts : List Lexeme) : Type 0 where
  pub end : Place
  pub spans : Spans (start source) ts end
  -- Nothing is left after the tokens.
  pub all : end.rest ≡ []

-- At the place after the first tokens, on this line, something is left and no token begins.
pub record IsUnreadable (source : List ℕ) (line : ℕ) : Type 0 where
  -- The tokens before the place.
  pub before : List Lexeme
  pub at : Place
  pub spans : Spans (start source) before at
  -- The source does not end at the place.
  pub more : at.rest ≢ []
  -- No token begins at the place.
  pub none : NoToken at.rest
  -- The place is on this line.
  pub here : at.line ≡ line
