-- Defines the pieces that a printer has left, in terms of the code's own types.
use Rattle.std.specs.Prelude.{ℕ, List, [], ◌∷◌, ◌++◌}
use Rattle.std.specs.Fmt.{signed_decimal}
use Rattle.values.specs.View.{data_of, items_of, entries_of}
use Rattle.values.specs.declared.printing.pieces.Part.{Part}
use Rattle.values.specs.declared.printing.pieces.Part.TheVariants as part
use Rattle.values.specs.declared.printing.pieces.Piece.{Piece}
use Rattle.values.specs.declared.printing.pieces.Piece.TheVariants as piece
use Rattle.values.specs.printing.Pieces.{inside_pieces, item_pieces, entry_pieces}

-- Returns the bytes of a piece.
abbrev pub piece_bytes : Piece → List ℕ
piece_bytes (piece.Text t) = t.now
piece_bytes (piece.Integer z) = signed_decimal z

-- Returns the pieces of a part.
abbrev pub part_pieces : Part → List (List ℕ)
part_pieces (part.Text t) = t.now ∷ []
part_pieces (part.Value v) = inside_pieces (data_of v.now)
part_pieces (part.Items items is_first) = item_pieces is_first (items_of items.now)
part_pieces (part.Entries keys values is_first) = entry_pieces is_first (entries_of keys.now values.now)

-- Returns the pieces of all parts that are left. The next part is last in the list.
abbrev pub remaining_pieces : List Part → List (List ℕ)
remaining_pieces [] = []
remaining_pieces (p ∷ ps) = remaining_pieces ps ++ part_pieces p
