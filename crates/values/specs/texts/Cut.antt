-- Defines the ways to cut a text, in terms of the code's own types.
use Prim.Native.Char.{code}
use Rattle.std.specs.Prelude.{ℕ, ◌<◌, List, [], ◌∷◌, length, Option, Some, None, nat_eq, codes, ◌==◌, if◌then◌else◌}
use Rattle.std.specs.List.{starts_with}
use denote.Ref.{Bor}
use Rattle.values.specs.declared.texts.first_piece.Cut.{Cut}
use Rattle.values.specs.declared.texts.first_piece.Cut.TheVariants as cut
use Rattle.values.specs.texts.Pieces.{parts, words, lines, lines_after}

-- Returns the pieces into which a text is cut.
abbrev pub pieces : Cut → List ℕ → List (List ℕ)
pieces (cut.At separator) text = parts separator.now text
pieces cut.Blanks text = words text
pieces cut.Lines text = lines text

-- Returns the pieces of the remaining text, and none if nothing remains.
abbrev pub pieces_of_rest : (List ℕ → List (List ℕ)) → Option (Bor (List ℕ)) → List (List ℕ)
pieces_of_rest cut_up None = []
pieces_of_rest cut_up (Some rest) = cut_up rest.now

-- Returns the lines after the line ending with which a text begins.
abbrev pub lines_behind : List ℕ → List (List ℕ)
lines_behind [] = []
lines_behind (b ∷ bs) = lines_after (b == code "\r") bs

-- Returns the length in bytes of the line ending with which a text begins.
abbrev pub end_length : List ℕ → ℕ
end_length text = if starts_with nat_eq text (codes "\r\n") then 2 else 1

-- Holds if a way to cut has no empty separator.
abbrev pub CanCut : Cut → Type 0
CanCut (cut.At separator) = 0 < length separator.now
CanCut cut.Blanks = Unit {0}
CanCut cut.Lines = Unit {0}
