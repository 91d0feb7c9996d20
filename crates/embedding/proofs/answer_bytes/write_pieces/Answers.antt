use Rattle.std.proofs.Common.{◌∙◌, sym, ap, subst, refl, length, take}
use Rattle.byte_devices.specs.PiecesView.{pieces_view}
use Rattle.embedding.specs.Encoding.{IsFilled, bytes_of}
use Rattle.embedding.proofs.Filling.{nothing_yet, pieces_more}
use Rattle.embedding.proofs.answer_bytes.write_pieces.Goals as goal

pub loop-piece-init : goal.loop-piece-init
unfolding bytes_of
loop-piece-init c = record { filled = nothing_yet c.args.room.now; long = refl }

pub loop-piece-preserved : goal.loop-piece-preserved
loop-piece-preserved c =
    let e = pieces_more c.args.pieces.now c.loop-piece.piece-index c.piece-item.result c.loop-piece-test.true c.piece-item.is in
    let w = c.in-Some.ensures (bytes_of (pieces_view (take c.loop-piece.piece-index c.args.pieces.now))) (sym c.loop-piece.invariant.long)
    c.loop-piece.invariant.filled in
    record { filled = subst (IsFilled c.write_piece.new.room) (sym e) w.0; long = w.1 ∙ ap length (sym e) }
