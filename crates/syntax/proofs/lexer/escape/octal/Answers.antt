use Rattle.std.proofs.Common.{◌∙◌, ℕ, ◌+◌, ◌-◌, ◌*◌, arith, ap, sym, drop, get_or}
use Rattle.syntax.specs.lexer.Escapes.{octal}
use Rattle.syntax.proofs.Escapes.{octal_yes, octal_range}
use Rattle.syntax.proofs.lexer.escape.octal.Goals as goal

pub loop-size-preserved : goal.loop-size-preserved
loop-size-preserved c =
    let s = c.args.bytes.now in
    let i = c.loop-size.size in
    let range = octal_range (get_or s i 0) (sym c.if-is_octal_digit.ensures) in
    let bound = c.loop-size.invariant in
    record {
      none = λ le. absurd (omega arith);
      one = λ le. omega (arith, bound.none (omega arith), range, c.from.ensures);
      two = λ le. omega (arith, bound.one (omega arith), range, c.from.ensures);
      room = omega (arith, bound.two (omega arith), range, c.from.ensures);
      read = bound.read ∙ octal_yes s c.loop-size.value i (omega arith) (omega arith) (sym c.if-is_octal_digit.ensures)
          ∙ ap (λ (d : ℕ). octal (3 - (i + 1)) (8 * c.loop-size.value + d) (i + 1) (drop (i + 1) s)) (sym c.from.ensures);
    }
