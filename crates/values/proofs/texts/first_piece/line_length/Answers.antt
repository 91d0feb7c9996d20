use Rattle.std.proofs.Common.{sym, ◌∙◌, length, arith}
use Rattle.values.specs.texts.Pieces.{is_line_end}
use Rattle.std.proofs.lemmas.List.Sums.{position_or_len_is}
use Rattle.values.proofs.texts.first_piece.line_length.Goals as goal

pub returns-then-is_line_end : goal.returns-then-is_line_end
returns-then-is_line_end c = sym (position_or_len_is is_line_end c.args.bytes.now c.loop-i.i 0 (omega arith) c.loop-i.invariant
    (λ _. sym c.is_line_end.ensures ∙ c.if-is_line_end.true))

pub returns : goal.returns
returns c = sym (position_or_len_is is_line_end c.args.bytes.now (length c.args.bytes.now) 0 (omega arith)
    (λ k h. c.loop-i.invariant k (omega arith)) (λ h. absurd (omega arith)))
