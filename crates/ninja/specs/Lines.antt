-- Defines the lines of a Ninja file, and the parts of one line.
use Prim.Native.Char.{code}
use Rattle.std.specs.Prelude.{ℕ, Bool, false, cond, ◌==◌, ◌||◌, not, List, [], ◌∷◌, ◌++◌, Option, Some, None, codes}
use Rattle.ninja.specs.Bytes.{same_bytes, is_one_of}
use Rattle.ninja.specs.Machine.{Machine, output_from}
use Rattle.ninja.specs.Pieces.{Piece, Plain, Escaped, Variable, is_name_byte}

-- Returns whether the piece is this byte, not escaped.
abbrev pub is_plain : ℕ → Piece → Bool
is_plain b (Plain c) = c == b
is_plain b (Escaped c) = false
is_plain b (Variable name) = false

-- ---- lines

-- Returns the lines with a piece at the front of the first.
abbrev pub onto_line : Piece → List (List Piece) → List (List Piece)
onto_line p [] = (p ∷ []) ∷ []
onto_line p (line ∷ lines) = (p ∷ line) ∷ lines

-- Returns the lines with a piece before them, which may be a newline.
abbrev pub put_in_line : Piece → List (List Piece) → List (List Piece)
put_in_line p lines = cond (is_plain (code "\n") p) ([] ∷ lines) (onto_line p lines)

-- Returns the parts between newlines that are not escaped.
abbrev pub lines_of : List Piece → List (List Piece)
lines_of [] = [] ∷ []
lines_of (p ∷ ps) = put_in_line p (lines_of ps)

-- ---- parts of a line

-- Returns the pieces, or the rest if the first piece is a space.
abbrev pub without_blanks_step : Piece → List Piece → List Piece → List Piece
without_blanks_step p ps rest = cond (is_plain (code " ") p) rest (p ∷ ps)

-- Removes the leading spaces.
abbrev pub without_blanks : List Piece → List Piece
without_blanks [] = []
without_blanks (p ∷ ps) = without_blanks_step p ps (without_blanks ps)

-- Returns whether the first piece is a space.
abbrev pub begins_blank : List Piece → Bool
begins_blank [] = false
begins_blank (p ∷ ps) = is_plain (code " ") p

-- Returns a name with a piece before it, if a name may have the piece.
abbrev pub name_step : Piece → List Piece → List ℕ × List Piece → List ℕ × List Piece
name_step (Plain b) ps found = cond (is_name_byte b) (b ∷ found.0, found.1) ([], Plain b ∷ ps)
name_step (Escaped b) ps found = ([], Escaped b ∷ ps)
name_step (Variable name) ps found = ([], Variable name ∷ ps)

-- Returns the name at the front, and what follows it.
abbrev pub name_at : List Piece → List ℕ × List Piece
name_at [] = ([], [])
name_at (p ∷ ps) = name_step p ps (name_at ps)

-- Returns whether the name begins a statement, and so names nothing.
abbrev pub is_keyword : List ℕ → Bool
is_keyword name = is_one_of (codes "build" ∷ codes "rule" ∷ codes "default" ∷ codes "include" ∷ codes "subninja" ∷ codes "pool" ∷ []) name

-- Returns whether a variable or a rule may have the name.
abbrev pub is_name : List ℕ → Bool
is_name name = not (is_keyword name || same_bytes name [])

-- Returns the name if nothing follows it.
abbrev pub whole_name : List ℕ × List Piece → Option (List ℕ)
whole_name found = elim found.1 [ [] ↦ cond (is_name found.0) (Some found.0) None | p ∷ ps ↦ None ]

-- Returns the name that these pieces spell, if they spell one.
abbrev pub plain_name : List Piece → Option (List ℕ)
plain_name ps = whole_name (name_at ps)

-- ---- paths

-- A part of a line: a path, or one of the signs `:`, `|` and `||`.
pub data Token : Type 0 where
  -- A path, not expanded yet.
  Path : (pieces : List Piece) → Token
  -- The sign `:`, which begins the rule and the inputs.
  Colon : Token
  -- The sign `|`, which begins implicit paths.
  Bar : Token
  -- The sign `||`, which begins order-only paths.
  Bars : Token

-- The state of a reader of a line: between parts, in a path, or after one bar.
pub data Place : Type 0 where
  -- No part is open.
  Between : Place
  -- A path is open, with these pieces so far.
  Within : (pieces : List Piece) → Place
  -- One bar was read, which may be the first of two.
  Barred : Place

-- The kind of a piece of a line: a space, a colon, a bar, or a part of a path.
pub data Kind : Type 0 where
  IsBlank : Kind
  IsColon : Kind
  IsBar : Kind
  IsPart : Kind

-- Returns the kind of a piece. A space, a colon or a bar after a `$` is a part of a path, and so is a variable.
abbrev pub kind_of : Piece → Kind
kind_of (Plain b) = cond (b == code " ") IsBlank (cond (b == code ":") IsColon (cond (b == code "|") IsBar IsPart))
kind_of (Escaped b) = IsPart
kind_of (Variable name) = IsPart

-- Returns the state after a piece between parts.
abbrev pub place_after_piece : Piece → Kind → Place
place_after_piece p IsBlank = Between
place_after_piece p IsColon = Between
place_after_piece p IsBar = Barred
place_after_piece p IsPart = Within (p ∷ [])

-- Returns the token of a piece between parts.
abbrev pub begun_token : Kind → List Token
begun_token IsBlank = []
begun_token IsColon = Colon ∷ []
begun_token IsBar = []
begun_token IsPart = []

-- Returns the state after a piece in a path.
abbrev pub next_within : List Piece → Piece → Kind → Place
next_within pieces p IsBlank = Between
next_within pieces p IsColon = Between
next_within pieces p IsBar = Barred
next_within pieces p IsPart = Within (pieces ++ p ∷ [])

-- Returns the tokens that a piece in a path completes.
abbrev pub given_within : List Piece → Kind → List Token
given_within pieces IsBlank = Path pieces ∷ []
given_within pieces IsColon = Path pieces ∷ Colon ∷ []
given_within pieces IsBar = Path pieces ∷ []
given_within pieces IsPart = []

-- Returns the state after a piece that follows one bar.
abbrev pub next_barred : Piece → Kind → Place
next_barred p IsBlank = Between
next_barred p IsColon = Between
next_barred p IsBar = Between
next_barred p IsPart = Within (p ∷ [])

-- Returns the tokens that a piece completes that follows one bar.
abbrev pub given_barred : Kind → List Token
given_barred IsBlank = Bar ∷ []
given_barred IsColon = Bar ∷ Colon ∷ []
given_barred IsBar = Bars ∷ []
given_barred IsPart = Bar ∷ []

-- Returns the state after a piece.
abbrev pub next_place : Place → Piece → Place
next_place Between p = place_after_piece p (kind_of p)
next_place (Within pieces) p = next_within pieces p (kind_of p)
next_place Barred p = next_barred p (kind_of p)

-- Returns the tokens that a piece completes.
abbrev pub tokens_given : Place → Piece → List Token
tokens_given Between p = begun_token (kind_of p)
tokens_given (Within pieces) p = given_within pieces (kind_of p)
tokens_given Barred p = given_barred (kind_of p)

-- Returns the tokens that the end of the line completes.
abbrev pub tokens_at_end : Place → Option (List Token)
tokens_at_end Between = Some []
tokens_at_end (Within pieces) = Some (Path pieces ∷ [])
tokens_at_end Barred = Some (Bar ∷ [])

-- Reads the pieces of a line as tokens.
abbrev pub tokens : Machine Place Piece Token
tokens = record { next = next_place; gives = tokens_given; ends = tokens_at_end }

-- Returns the paths and signs of a line.
abbrev pub tokens_of : List Piece → Option (List Token)
tokens_of ps = output_from tokens Between ps
