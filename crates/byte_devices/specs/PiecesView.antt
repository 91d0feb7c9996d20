-- Defines the view of pieces, without their place in memory.
use Rattle.std.specs.Prelude.{List, map}
use Rattle.byte_devices.specs.Pieces.{PieceData, piece}
use Rattle.byte_devices.specs.declared.piece.Piece.{Piece}

-- Returns the kind and the bytes of a piece of the code.
abbrev pub piece_view : Piece → PieceData
piece_view p = piece p.kind p.bytes.items

-- Returns the kinds and the bytes of pieces of the code, in order.
abbrev pub pieces_view : List Piece → List PieceData
pieces_view ps = map piece_view ps
