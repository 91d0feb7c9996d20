use Rattle.std.proofs.Common.{sym, ◌∙◌, arith, ◌≡◌, length}
use Rattle.byte_devices.specs.PiecesView.{pieces_view}
use Rattle.byte_devices.proofs.KeptLast.{on_err, on_kept, kept_as_it_was, went_on, behind_last, as_first}
use Rattle.byte_devices.proofs.piece.keep_bytes.Goals as goal
use Rattle.byte_devices.proofs.piece.keep_bytes.Goals.{else-len-gt0-via-then-len-gt0+else-goes_on, else-len-gt0-via-else-len-gt0}

pub returns-in_err-extend_from_slice-clause-same : goal.returns-in_err-extend_from_slice-clause-same
returns-in_err-extend_from_slice-clause-same c =
    on_err _ (kept_as_it_was _ _ _ _ (omega (arith, c.args.pieces.now.ok.0, c.len-len.ensures)) c.if-len-gt0.true c.index_mut.ensures.value
    c.in_err-extend_from_slice.ensures.items)

pub returns-then-goes_on-clause-kept : goal.returns-then-goes_on-clause-kept
returns-then-goes_on-clause-kept c =
    went_on _ _ _ _ _ _ _ (omega (arith, c.args.pieces.now.ok.0, c.len-len.ensures)) c.if-len-gt0.true c.index.ensures c.index_mut.ensures.value
    (sym c.goes_on.ensures ∙ c.if-goes_on.true) c.in_ok-extend_from_slice.ensures.items

pub returns-clause-kept : goal.returns-clause-kept
returns-clause-kept c =
    let n : c.len-len.result ≡ length c.args.pieces.now.items = omega (arith, c.args.pieces.now.ok.0, c.len-len.ensures) in
    elim c.else-len-gt0.branch [
      | else-len-gt0-via-then-len-gt0+else-goes_on w ↦
          on_kept c.keep_piece.result (pieces_view c.keep_piece.new.pieces.items) _ _ c.keep_piece.ensures.kept (behind_last c.args.kind c.args.pieces.now.items c.len-len.result w.index.result.now
          c.args.bytes.now n w.if-len-gt0.true w.index.ensures (sym w.goes_on.ensures ∙ w.if-goes_on.false) c.requires (sym c.if-is_empty.ensures))
      | else-len-gt0-via-else-len-gt0 w ↦
          let none : length c.args.pieces.now.items ≡ 0 = omega (arith, n, w.if-len-gt0.false) in
          on_kept c.keep_piece.result (pieces_view c.keep_piece.new.pieces.items) _ _ c.keep_piece.ensures.kept (as_first c.args.kind c.args.pieces.now.items c.args.bytes.now none c.requires
          (sym c.if-is_empty.ensures))
    ]
