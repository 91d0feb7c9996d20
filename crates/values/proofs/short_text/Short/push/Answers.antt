use Rattle.std.proofs.Common.{arith, rules, length, ap, sym, take, drop, ◌∙◌, ◌++◌, ◌+◌, ◌-◌, length-drop, length-take-le}
use Rattle.std.proofs.lemmas.Slice.{take-put_mid}
use Rattle.std.proofs.lemmas.Str.{IsUtf8-had, IsUtf8-append}
use borrow.Rule.Slice.PartMut.{same_len_mid}
use Rattle.values.proofs.short_text.Short.push.Goals as goal

-- the piece stands behind the text so far, and there are as many bytes as before
pub invariant_of-self : goal.invariant_of-self
invariant_of-self c =
    let n = c.self.inside.count in
    let more = length c.args.piece.now in
    let bytes = c.self.inside.bytes in
    let piece = c.copy_from_slice.ensures.after ∙ c.as_bytes.ensures.value in
    let kept = length-take-le n bytes (omega (arith, c.self.invariant.0, c.self.invariant.1)) in
    let room = length-take-le (n + more - n) (drop n bytes)
    (omega (arith, kept, ap length c.self.view_is, length-drop n bytes, c.self.invariant.1, c.requires)) in
    let front = take-put_mid n (n + more - n) bytes c.copy_from_slice.new.self (n + more)
    (ap (λ xs. n + length xs) (sym piece)) (omega (arith, c.self.invariant.0, c.self.invariant.1))
    ∙ ap (λ xs. take n bytes ++ xs) piece in (
      search rules,
      same_len_mid n (n + more - n) bytes c.copy_from_slice.new.self (omega (arith, ap length piece, room)) ∙ c.self.invariant.1,
      ∣ rw front (IsUtf8-append _ _ (IsUtf8-had _ c.self.invariant.2) c.utf8.piece) ∣₁,
    )
