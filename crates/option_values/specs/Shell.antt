-- Defines how words are written, as a relation by the pieces of a text.
use Rattle.std.specs.Prelude.{◌≡◌, ℕ, Bool, true, false, not, ◌||◌, ◌==◌, List, [], ◌∷◌, ◌++◌, Option, Some, None}
use Rattle.std.specs.Char.{encode_utf8}
use Rattle.std.specs.Str.{encode_utf8_all}
use Rattle.std.specs.List.{list_all}
use Rattle.syntax.specs.lexer.Bytes.{backslash, quote}
use Rattle.option_values.specs.Words.{double_quote, parts_words, is_escapable}

-- Returns whether the character is itself outside quotes.
abbrev pub is_bare : ℕ → Bool
is_bare c = not (parts_words c || ((c == backslash) || ((c == quote) || (c == double_quote))))

-- Returns whether the character is not a single quote.
abbrev pub is_no_quote : ℕ → Bool
is_no_quote c = not (c == quote)

-- Relates the characters between double quotes to their text. A backslash before a double quote or a backslash is dropped.
pub data Inside : List ℕ → List ℕ → Type 0 where
  nothing : Inside [] []
  plain : (c : ℕ) (cs text : List ℕ) → is_escapable c ≡ false → Inside cs text → Inside (c ∷ cs) (encode_utf8 c ++ text)
  escaped : (c : ℕ) (cs text : List ℕ) → is_escapable c ≡ true → Inside cs text → Inside (backslash ∷ c ∷ cs) (encode_utf8 c ++ text)
  -- A backslash before any other character is part of the text.
  kept : (c : ℕ) (cs text : List ℕ) → is_escapable c ≡ false → Inside cs text
      → Inside (backslash ∷ c ∷ cs) (encode_utf8 backslash ++ (encode_utf8 c ++ text))

-- Relates a piece of a word to its text.
pub data Piece : List ℕ → List ℕ → Type 0 where
  bare : (c : ℕ) → is_bare c ≡ true → Piece (c ∷ []) (encode_utf8 c)
  escaped : (c : ℕ) → Piece (backslash ∷ c ∷ []) (encode_utf8 c)
  -- Characters in single quotes are the text as they are.
  single : (cs : List ℕ) → list_all is_no_quote cs ≡ true → Piece (quote ∷ (cs ++ quote ∷ [])) (encode_utf8_all cs)
  double : (cs text : List ℕ) → Inside cs text → Piece (double_quote ∷ (cs ++ double_quote ∷ [])) text

-- Relates the rest of a text to its words, if what comes before ends between words, or in a word with this text so far. Blanks and newlines
-- separate words. Pieces with nothing between them are one word.
pub data Reads : Option (List ℕ) → List ℕ → List (List ℕ) → Type 0 where
  end : Reads None [] []
  -- A character that separates words is skipped between words.
  blank : (c : ℕ) (cs : List ℕ) (words : List (List ℕ)) → parts_words c ≡ true → Reads None cs words → Reads None (c ∷ cs) words
  -- A piece between words begins a word.
  begin : (cs text rest : List ℕ) (words : List (List ℕ)) → Piece cs text → Reads (Some text) rest words → Reads None (cs ++ rest) words
  -- A piece continues the word.
  further : (word cs text rest : List ℕ) (words : List (List ℕ)) → Piece cs text → Reads (Some (word ++ text)) rest words
      → Reads (Some word) (cs ++ rest) words
  -- A character that separates words ends the word.
  part : (word : List ℕ) (c : ℕ) (cs : List ℕ) (words : List (List ℕ)) → parts_words c ≡ true → Reads None cs words
      → Reads (Some word) (c ∷ cs) (word ∷ words)
  -- The end of the text ends the word.
  last : (word : List ℕ) → Reads (Some word) [] (word ∷ [])

-- Holds if the characters are these words.
abbrev pub AreWords : List ℕ → List (List ℕ) → Type 0
AreWords cs words = Reads None cs words
