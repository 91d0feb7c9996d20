use Rattle.std.proofs.Common.{◌≡◌, ℕ, ◌<◌, false, get_or}
use Rattle.values.specs.texts.Pieces.{is_line_end}
use Rattle.values.proofs.texts.first_piece.line_length.Given as goal

abbrev pub invariant-loop-i : goal.invariant-loop-i
invariant-loop-i l = (k : ℕ) → k < l.i → is_line_end (get_or l.bytes k 0) ≡ false
