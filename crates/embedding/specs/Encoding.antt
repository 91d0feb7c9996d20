-- Defines the bytes of a run's answer.
use Rattle.std.specs.Prelude.{◌≡◌, ℕ, List, ◌∷◌, ◌++◌, length, take}
use Rattle.std.specs.List.{flat_map}
use Rattle.std.specs.Int.{to_le_bytes, w64}
use Rattle.byte_devices.specs.declared.piece.PieceKind.{PieceKind}
use Rattle.byte_devices.specs.declared.piece.PieceKind.TheVariants.{Open, Bytes, Close, Log, Fault}
use Rattle.byte_devices.specs.Pieces.{PieceData, pieces_of}
use Rattle.ports.specs.Outputs.{Event}

-- Returns the first byte of an event: `O`, `B`, `C`, `L` or `E`.
abbrev pub kind_byte : PieceKind → ℕ
kind_byte Open = 79
kind_byte Bytes = 66
kind_byte Close = 67
kind_byte Log = 76
kind_byte Fault = 69

-- Returns an event: its kind, the number of its bytes, as eight bytes with the lowest first, and these bytes.
abbrev pub piece_bytes : PieceData → List ℕ
piece_bytes p = kind_byte p.kind ∷ (to_le_bytes w64 (length p.bytes) ++ p.bytes)

-- Returns the pieces, one after another.
unfoldable pub bytes_of : List PieceData → List ℕ
bytes_of ps = flat_map piece_bytes ps

-- Returns the events of a run, with the bytes of one kind that follow one another joined.
abbrev pub encoding : List Event → List ℕ
encoding events = bytes_of (pieces_of events)

-- Holds if the room begins with as many of these bytes as it has room for.
abbrev pub IsFilled : (room bytes : List ℕ) → Type 0
IsFilled room bytes = take (length bytes) room ≡ take (length room) bytes
