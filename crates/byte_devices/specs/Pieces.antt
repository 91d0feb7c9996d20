-- Defines the events of a run as pieces: bytes of one kind that follow one another are one piece.
use Rattle.std.specs.Prelude.{ℕ, Bool, true, false, List, [], ◌∷◌, ◌++◌, fold, if◌then◌else◌}
use Rattle.std.specs.List.{flat_map}
use Rattle.ports.specs.Outputs as outputs
use Rattle.ports.specs.Outputs.{Event, Step, opening_steps, closing_steps, puts, logs, faults}
use Rattle.byte_devices.specs.declared.piece.PieceKind.{PieceKind}
use Rattle.byte_devices.specs.declared.piece.PieceKind.TheVariants.{Open, Bytes, Close, Log, Fault}

-- A piece of the events: its kind, and its bytes, which are the name of an output that was opened or the bytes that were written.
pub record PieceData : Type 0 where
  pub kind : PieceKind
  pub bytes : List ℕ

-- Returns the piece of this kind with these bytes.
abbrev pub piece : PieceKind → List ℕ → PieceData
piece kind bytes = record { kind = kind; bytes = bytes }

-- Returns whether bytes of the second kind continue a piece of the first.
abbrev pub goes_on : PieceKind → PieceKind → Bool
goes_on Bytes Bytes = true
goes_on Log Log = true
goes_on Fault Fault = true
goes_on kind next = false

-- Returns the pieces with one more byte of this kind.
abbrev pub with_byte : PieceKind → List PieceData → ℕ → List PieceData
with_byte kind [] byte = piece kind (byte ∷ []) ∷ []
with_byte kind (p ∷ []) byte =
    if goes_on p.kind kind then piece p.kind (p.bytes ++ byte ∷ []) ∷ [] else p ∷ piece kind (byte ∷ []) ∷ []
with_byte kind (p ∷ q ∷ ps) byte = p ∷ with_byte kind (q ∷ ps) byte

-- Returns the pieces with more bytes of this kind.
abbrev pub with_bytes : PieceKind → List PieceData → List ℕ → List PieceData
with_bytes kind ps bytes = fold (with_byte kind) ps bytes

-- Returns the pieces with one more event.
abbrev pub with_event : List PieceData → Event → List PieceData
with_event ps (outputs.Open name) = ps ++ piece Open name ∷ []
with_event ps (outputs.Byte name byte) = with_byte Bytes ps byte
with_event ps (outputs.Close name) = ps ++ piece Close [] ∷ []
with_event ps (outputs.Log byte) = with_byte Log ps byte
with_event ps (outputs.Fault byte) = with_byte Fault ps byte

-- Returns the pieces of these events.
abbrev pub pieces_of : List Event → List PieceData
pieces_of events = fold with_event [] events

-- Returns the steps of bytes of this kind.
unfoldable pub steps_of : PieceKind → List ℕ → List Step
steps_of Open bytes = opening_steps bytes
steps_of Bytes bytes = puts bytes
steps_of Close bytes = closing_steps
steps_of Log bytes = logs bytes
steps_of Fault bytes = faults bytes

-- Returns the steps of these pieces.
unfoldable pub steps_in : List PieceData → List Step
steps_in ps = flat_map (λ p. steps_of p.kind p.bytes) ps
