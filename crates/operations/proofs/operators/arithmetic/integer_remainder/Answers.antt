use Rattle.std.proofs.Common.{◌≡◌, ◌-ℤ◌, ◌+ℤ◌, ◌*ℤ◌, pos, false, FitsSigned, Some, sym, ap, ◌∙◌, rules, arith}
use Rattle.std.specs.Int.{int_rem_euclid, w128, cast_unsigned, cast_signed}
use Rattle.std.proofs.lemmas.Int.{to_z-of_z, ints}
use lib.Signed.{lt_z}
use Rattle.operations.specs.operators.Integers.{is_zero, floor}
use Rattle.operations.proofs.IntegerLemmas.{rest-positive, rest-exact, rest-inexact, in_range_fits, remainder-rest, not_zero_from_bits}
use Rattle.operations.proofs.IntegerLemmas.{zero_bits, no_zero_bits}
use Rattle.operations.proofs.operators.arithmetic.integer_remainder.Goals as goal
use Rattle.operations.proofs.operators.arithmetic.integer_remainder.Goals.{then-y-gt0-via-then-y-gt0}
use Rattle.operations.proofs.operators.arithmetic.integer_remainder.Goals.{then-y-gt0-via-else-y-gt0+then-rest-eq0}

pub returns-then-y-gt0 : goal.returns-then-y-gt0
returns-then-y-gt0 c =
    let x = c.args.x in
    let y = c.args.y in
    let r = c.rem_euclid-rest.result in
    let ex = to_z-of_z w128 x c.ranges.x in
    let ey = to_z-of_z w128 y c.ranges.y in
    let fits : FitsSigned w128 r = search rules in
    let is : r ≡ int_rem_euclid x y = c.rem_euclid-rest.ensures.value ∙ ap (λ a. int_rem_euclid a (cast_signed w128 (cast_unsigned w128 y))) ex ∙ ap (int_rem_euclid x) ey in
    let given : is_zero y ≡ false = not_zero_from_bits y c.if-y-eq0.false in
    let left : r ≡ x -ℤ y *ℤ floor x y = elim c.then-y-gt0.branch [
      | then-y-gt0-via-then-y-gt0 w ↦ is ∙ sym (rest-positive x y (ap (lt_z (pos 0)) (sym ey) ∙ w.if-y-gt0.true))
      | then-y-gt0-via-else-y-gt0+then-rest-eq0 w ↦
          let none = zero_bits r fits w.if-rest-eq0.true in
          none ∙ sym (rest-exact x y given (sym is ∙ none))
    ] in
    ap Some (to_z-of_z w128 r fits) ∙ in_range_fits r fits ∙ remainder-rest x y r given left

pub returns : goal.returns
returns c =
    let x = c.args.x in
    let y = c.args.y in
    let r = c.rem_euclid-rest.result in
    let ex = to_z-of_z w128 x c.ranges.x in
    let ey = to_z-of_z w128 y c.ranges.y in
    let fits : FitsSigned w128 r = search rules in
    let er = to_z-of_z w128 r fits in
    let is : r ≡ int_rem_euclid x y = c.rem_euclid-rest.ensures.value ∙ ap (λ a. int_rem_euclid a (cast_signed w128 (cast_unsigned w128 y))) ex ∙ ap (int_rem_euclid x) ey in
    let given : is_zero y ≡ false = not_zero_from_bits y c.if-y-eq0.false in
    let left = rest-inexact x y given (ap (lt_z (pos 0)) (sym ey) ∙ c.if-y-gt0.false) (λ none. no_zero_bits r c.if-rest-eq0.false (is ∙ none)) in
    let sum = ap (λ a. a +ℤ cast_signed w128 (cast_unsigned w128 y)) er ∙ ap (λ a. r +ℤ a) ey in
    let sum_fits : FitsSigned w128 (r +ℤ y) = omega (arith, ints, c.rem_euclid-rest.ensures.lower_bound) in
    ap (λ a. Some (cast_signed w128 (cast_unsigned w128 a))) sum ∙ ap Some (to_z-of_z w128 (r +ℤ y) sum_fits) ∙ in_range_fits (r +ℤ y) sum_fits
    ∙ remainder-rest x y (r +ℤ y) given (ap (λ a. a +ℤ y) is ∙ sym left)
