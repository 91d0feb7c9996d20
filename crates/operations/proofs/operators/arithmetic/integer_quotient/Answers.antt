use Rattle.std.proofs.Common.{◌≡◌, ◌<◌, ◌-ℤ◌, pos, false, FitsSigned, Some, sym, ap, ◌∙◌, subst, rules}
use Rattle.std.specs.Int.{int_div_euclid, int_rem_euclid, w128, cast_unsigned, cast_signed}
use Rattle.std.proofs.lemmas.Int.{to_z-of_z}
use lib.Signed.{lt_z}
use Rattle.operations.specs.operators.Integers.{is_zero, floor}
use Rattle.operations.proofs.IntegerLemmas.{quotient-rest, floor-positive, floor-exact, floor-inexact, in_range_fits, in_range_checked}
use Rattle.operations.proofs.IntegerLemmas.{quotient-floor, zero_from_bits, zero_bits, no_zero_bits}
use Rattle.operations.proofs.operators.arithmetic.integer_quotient.Goals as goal
use Rattle.operations.proofs.operators.arithmetic.integer_quotient.Goals.{then-y-gt0-via-then-y-gt0}
use Rattle.operations.proofs.operators.arithmetic.integer_quotient.Goals.{then-y-gt0-via-else-y-gt0+then-rem_euclid-eq0}

pub returns-then-y-gt0-clause-value : goal.returns-then-y-gt0-clause-value
returns-then-y-gt0-clause-value c =
    let x = c.args.x in
    let y = c.args.y in
    let q = c.in_ok-quotient.quotient in
    let ex = to_z-of_z w128 x c.ranges.x in
    let ey = to_z-of_z w128 y c.ranges.y in
    let fits : FitsSigned w128 q = search rules in
    let is : q ≡ int_div_euclid x y = c.in_ok-quotient.ensures.1 ∙ ap (λ a. int_div_euclid a (cast_signed w128 (cast_unsigned w128 y))) ex ∙ ap (int_div_euclid x) ey in
    let given : is_zero y ≡ false = zero_from_bits y (subst (λ a. 0 < cast_unsigned w128 a) ey c.in_ok-quotient.ensures.0.0) in
    let floors : int_div_euclid x y ≡ floor x y = elim c.then-y-gt0.branch [
      | then-y-gt0-via-then-y-gt0 w ↦ floor-positive x y (ap (lt_z (pos 0)) (sym ey) ∙ w.if-y-gt0.true)
      | then-y-gt0-via-else-y-gt0+then-rem_euclid-eq0 w ↦
          floor-exact x y given (sym (w.rem_euclid.ensures.value ∙ ap (λ a. int_rem_euclid a (cast_signed w128 (cast_unsigned w128 y))) ex ∙ ap (int_rem_euclid x) ey) ∙ zero_bits w.rem_euclid.result (search rules) w.if-rem_euclid-eq0.true)
    ] in
    ap Some (to_z-of_z w128 q fits) ∙ in_range_fits q fits ∙ quotient-floor x y q given (is ∙ floors)

pub returns-clause-value : goal.returns-clause-value
returns-clause-value c =
    let x = c.args.x in
    let y = c.args.y in
    let q = c.in_ok-quotient.quotient in
    let ex = to_z-of_z w128 x c.ranges.x in
    let ey = to_z-of_z w128 y c.ranges.y in
    let fits : FitsSigned w128 q = search rules in
    let is : q ≡ int_div_euclid x y = c.in_ok-quotient.ensures.1 ∙ ap (λ a. int_div_euclid a (cast_signed w128 (cast_unsigned w128 y))) ex ∙ ap (int_div_euclid x) ey in
    let given : is_zero y ≡ false = zero_from_bits y (subst (λ a. 0 < cast_unsigned w128 a) ey c.in_ok-quotient.ensures.0.0) in
    let rest = c.rem_euclid.ensures.value ∙ ap (λ a. int_rem_euclid a (cast_signed w128 (cast_unsigned w128 y))) ex ∙ ap (int_rem_euclid x) ey in
    let floors = floor-inexact x y given (ap (lt_z (pos 0)) (sym ey) ∙ c.if-y-gt0.false) (λ none. no_zero_bits c.rem_euclid.result c.if-rem_euclid-eq0.false (rest ∙ none)) in
    in_range_checked c.checked_sub.result _ c.checked_sub.ensures ∙ quotient-floor x y _ given (ap (λ a. a -ℤ pos 1) (to_z-of_z w128 q fits ∙ is) ∙ floors)

pub returns-then-y-gt0-clause-rest : goal.returns-then-y-gt0-clause-rest
returns-then-y-gt0-clause-rest c = quotient-rest c.args.x c.args.y _ (returns-then-y-gt0-clause-value c)

pub returns-clause-rest : goal.returns-clause-rest
returns-clause-rest c = quotient-rest c.args.x c.args.y c.checked_sub.result (returns-clause-value c)
