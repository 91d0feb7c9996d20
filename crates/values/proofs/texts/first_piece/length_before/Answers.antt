use Rattle.std.proofs.Common.{◌≡◌, sym, length, get_or, arith, nat_eq}
use Rattle.std.proofs.lemmas.List.Sums.{position_or_len_is}
use Rattle.std.proofs.lemmas.Bool.Decides.{nat_tests}
use Rattle.values.proofs.texts.first_piece.length_before.Goals as goal

pub returns-then-b-byte : goal.returns-then-b-byte
returns-then-b-byte c =
    let here : get_or c.args.bytes.now c.loop-i.i 0 ≡ c.args.byte = c.if-b-byte.true in
    sym (position_or_len_is (λ b. nat_eq b c.args.byte) c.args.bytes.now c.loop-i.i 0 (omega arith)
    c.loop-i.invariant (λ _. grind (arith, nat_tests)))

pub returns : goal.returns
returns c = sym (position_or_len_is (λ b. nat_eq b c.args.byte) c.args.bytes.now (length c.args.bytes.now) 0 (omega arith)
    (λ k h. c.loop-i.invariant k (omega arith)) (λ h. absurd (omega arith)))
