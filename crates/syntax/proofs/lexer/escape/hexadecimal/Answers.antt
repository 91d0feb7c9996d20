use Rattle.std.proofs.Common.{◌∙◌, ℕ, ◌+◌, ◌-◌, ◌*◌, ◌<◌, arith, ap, sym, subst, drop}
use Rattle.std.specs.Char.{digit_value}
use Rattle.syntax.specs.lexer.Escapes.{hexadecimal}
use Rattle.syntax.proofs.Escapes.{hex_yes, hex_grows, hex_fits}
use Rattle.syntax.proofs.lexer.escape.hexadecimal.Goals as goal

small : (c : goal.In-Some) → c.in-Some.digit < 16
small c = subst (λ (d : ℕ). d < 16) (sym c.in-Some.ensures.value.1) c.in-Some.ensures.value.0

pub overflow_mul-value : goal.overflow_mul-value
overflow_mul-value c = omega (arith, hex_fits c.loop-index.value c.loop-index.index c.loop-index.invariant.room (omega arith))

pub overflow_add-value : goal.overflow_add-value
overflow_add-value c = omega (arith, small c, hex_fits c.loop-index.value c.loop-index.index c.loop-index.invariant.room (omega arith))

pub loop-index-preserved : goal.loop-index-preserved
loop-index-preserved c =
    let s = c.args.bytes.now in
    let i = c.loop-index.index in
    let digit = c.in-Some.ensures.value in
    record {
      room = hex_grows c.loop-index.value c.in-Some.digit i c.loop-index.invariant.room (small c);
      read = c.loop-index.invariant.read ∙ hex_yes s c.args.count c.loop-index.value i (omega arith) (omega arith) (subst (λ (b : ℕ). digit_value b < 16) c.from.ensures digit.0)
          ∙ ap (λ (d : ℕ). hexadecimal (c.args.count - (i + 1)) (16 * c.loop-index.value + d) (drop (i + 1) s)) (ap digit_value (sym c.from.ensures) ∙ sym digit.1);
    }
