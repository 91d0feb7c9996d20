use Rattle.std.proofs.Common.{◌≡◌, ◌∙◌, ◌+◌, ◌*◌, ◌^◌, sym, ap, arith, drop, get_or}
use Rattle.syntax.specs.lexer.Numerals.{digit, number_in_base}
use Rattle.syntax.proofs.Numerals.{overflows, spelled-step, spelled-nil}
use Rattle.syntax.proofs.lexer.numeral.read_digits.Goals as goal

pub returns-in_err-checked_mul : goal.returns-in_err-checked_mul
returns-in_err-checked_mul c = rw c.from_residual.ensures (λ h.
    overflows c.args.base c.loop-byte.value c.args.digits.now c.loop-byte.byte-index (2 ^ 128) c.requires (omega arith) c.loop-byte.invariant.same (omega (arith, c.in_err-checked_mul.ensures)) h)

pub returns-in_err-value : goal.returns-in_err-value
returns-in_err-value c = rw c.from_residual-in_err-value.ensures (λ h.
    overflows c.args.base c.loop-byte.value c.args.digits.now c.loop-byte.byte-index (2 ^ 128) c.requires (omega arith) c.loop-byte.invariant.same (omega (arith, c.in_err-value.ensures, c.in_ok-checked_mul.ensures.1, c.digit.ensures, c.from.ensures)) h)

pub loop-byte-preserved : goal.loop-byte-preserved
loop-byte-preserved c =
    let value : c.in_ok-value.value ≡ c.loop-byte.value * c.args.base + digit (get_or c.args.digits.now c.loop-byte.byte-index 0) = omega (arith, c.in_ok-value.ensures.1, c.in_ok-checked_mul.ensures.1, c.digit.ensures, c.from.ensures) in
    record {
      small = omega (arith, c.in_ok-value.ensures.0, c.in_ok-value.ensures.1);
      same = ap (λ n. number_in_base c.args.base n (drop (c.loop-byte.byte-index + 1) c.args.digits.now)) value
          ∙ sym (spelled-step c.args.base c.loop-byte.value c.args.digits.now c.loop-byte.byte-index (omega arith)) ∙ c.loop-byte.invariant.same;
    }

pub returns : goal.returns
returns c =
    let same : c.loop-byte.value ≡ number_in_base c.args.base 0 c.args.digits.now =
    sym (spelled-nil c.args.base c.loop-byte.value c.args.digits.now c.loop-byte.byte-index (omega arith)) ∙ c.loop-byte.invariant.same in
    (omega (arith, c.loop-byte.invariant.small), same)
