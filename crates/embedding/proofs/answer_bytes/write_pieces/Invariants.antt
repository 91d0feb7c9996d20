use Rattle.std.proofs.Common.{◌≡◌, length, take}
use Rattle.byte_devices.specs.PiecesView.{pieces_view}
use Rattle.embedding.specs.Encoding.{IsFilled, bytes_of}
use Rattle.embedding.proofs.answer_bytes.write_pieces.Given as goal

abbrev pub invariant-loop-piece : goal.invariant-loop-piece
invariant-loop-piece l = record {
  filled : IsFilled l.room (bytes_of (pieces_view (take l.piece-index l.pieces)));
  long : l.at ≡ length (bytes_of (pieces_view (take l.piece-index l.pieces)));
}
