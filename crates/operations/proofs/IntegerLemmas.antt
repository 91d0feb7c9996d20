-- Quotients towards minus infinity, beside those whose remainder is never negative.
use Rattle.std.proofs.Common.{◌≡◌, ℕ, zero, suc, ◌+◌, ◌-◌, ◌*◌, ◌/◌, ◌%◌, ◌<◌, ℤ, pos, negsuc, ◌+ℤ◌, ◌-ℤ◌, ◌*ℤ◌, neg_ℤ, ◌≤ℤ◌, ◌<ℤ◌, Bool}
use Rattle.std.proofs.Common.{true, false, Some, None, Option, IfSome, refl, sym, ap, ◌∙◌, subst, arith, rules}
use Rattle.std.proofs.Math.Nat.{mod-lt, div-add-mod, div-add-mod', mul-zero, zero-mod, zero-div}
use lib.Arith.{digits_div, digits_mod}
use lib.Signed.{lt_z}
use Rattle.std.proofs.lemmas.Bool.Decides.{nat_tests}
use Rattle.std.specs.Int.{int_div_euclid, int_rem_euclid, w128, cast_unsigned}
use Rattle.std.proofs.lemmas.Int.{ints}
use Rattle.std.specs.Option.{SomeIff}
use Rattle.std.specs.Prelude.{if◌then◌else◌}
use Rattle.std.specs.Int.RustNames.{FitsSigned}
use Rattle.support.specs.Limits.{is_in_range}
use Rattle.operations.specs.operators.Integers.{IsRest, in_range, is_zero, floor, quotient, remainder}

-- one more than a, divided by n
pub div-suc-within : (a m : ℕ) → suc (a % suc m) < suc m → suc a / suc m ≡ a / suc m
div-suc-within a m h =
    let e : suc a ≡ (a / suc m) * suc m + suc (a % suc m) = omega (arith, div-add-mod' a (suc m)) in
    ap (λ x. x / suc m) e ∙ digits_div (a / suc m) h

pub mod-suc-within : (a m : ℕ) → suc (a % suc m) < suc m → suc a % suc m ≡ suc (a % suc m)
mod-suc-within a m h =
    let e : suc a ≡ (a / suc m) * suc m + suc (a % suc m) = omega (arith, div-add-mod' a (suc m)) in
    ap (λ x. x % suc m) e ∙ digits_mod (a / suc m) h

full : (a m : ℕ) → suc (a % suc m) ≡ suc m → suc a ≡ suc (a / suc m) * suc m + 0
full a m h = omega (arith, div-add-mod' a (suc m))

pub div-suc-full : (a m : ℕ) → suc (a % suc m) ≡ suc m → suc a / suc m ≡ suc (a / suc m)
div-suc-full a m h = ap (λ x. x / suc m) (full a m h) ∙ digits_div (suc (a / suc m)) (omega arith)

pub mod-suc-full : (a m : ℕ) → suc (a % suc m) ≡ suc m → suc a % suc m ≡ 0
mod-suc-full a m h = ap (λ x. x % suc m) (full a m h) ∙ digits_mod (suc (a / suc m)) (omega arith)

suc_not_zero : (n : ℕ) → suc n ≡ 0 → ⊥
suc_not_zero n e = omega arith

nothing_left : (a m : ℕ) → suc a % suc m ≡ 0 → suc (a % suc m) ≡ suc m
nothing_left a m left = let small = mod-lt a {m = suc m} (omega arith) in grind (arith, mod-suc-within a m)

one_below : (n : ℕ) → neg_ℤ (pos n) -ℤ pos 1 ≡ negsuc n
one_below zero = refl
one_below (suc n) = ap negsuc (omega arith)

one_less : (n : ℕ) → pos (suc n) -ℤ pos 1 ≡ pos n
one_less n = omega (arith, ints)

-- the two quotients are one where the divisor is above zero
pub floor-positive : (x y : ℤ) → lt_z (pos 0) y ≡ true → int_div_euclid x y ≡ floor x y
floor-positive (pos a) (pos b) h = refl
floor-positive (negsuc a) (pos b) h = refl
floor-positive (pos a) (negsuc b) h = absurd cc
floor-positive (negsuc a) (negsuc b) h = absurd cc

pos_inj : (a b : ℕ) → pos a ≡ pos b → a ≡ b
pos_inj a b h = cc

-- and where nothing is left
pub floor-exact : (x y : ℤ) → is_zero y ≡ false → int_rem_euclid x y ≡ pos 0 → int_div_euclid x y ≡ floor x y
floor-exact x (pos zero) given h = absurd cc
floor-exact (pos a) (pos (suc b)) given h = refl
floor-exact (negsuc a) (pos (suc b)) given h = refl
floor-exact (pos zero) (negsuc b) given h = ap (λ n. neg_ℤ (pos n)) (zero-div (suc b))
floor-exact (pos (suc a)) (negsuc b) given h =
    let left : suc a % suc b ≡ 0 = pos_inj _ _ h in
    let all = nothing_left a b left in
    ap (λ n. neg_ℤ (pos n)) (div-suc-full a b all)
floor-exact (negsuc a) (negsuc b) given h =
    let left : suc b - 1 - a % suc b ≡ 0 = pos_inj _ _ h in
    let small = mod-lt a {m = suc b} (omega arith) in
    let all : suc (a % suc b) ≡ suc b = omega arith in
    ap pos (sym (div-suc-full a b all))

not_above_itself : lt_z (pos 0) (pos zero) ≡ true → ⊥
not_above_itself h = absurd cc

above : (b : ℕ) → lt_z (pos 0) (pos (suc b)) ≡ true
above b = grind (arith, nat_tests)

not_above : (b : ℕ) → lt_z (pos 0) (pos (suc b)) ≡ false → ⊥
not_above b h = grind (arith, nat_tests)

-- else they differ by one
pub floor-inexact : (x y : ℤ) → is_zero y ≡ false → lt_z (pos 0) y ≡ false → (int_rem_euclid x y ≡ pos 0 → ⊥) → int_div_euclid x y -ℤ pos 1 ≡ floor x y
floor-inexact x (pos zero) given negative h = absurd cc
floor-inexact x (pos (suc b)) given negative h = absurd (not_above b negative)
floor-inexact (pos zero) (negsuc b) given negative h = absurd (h (ap pos (zero-mod (suc b))))
floor-inexact (pos (suc a)) (negsuc b) given negative h =
    let small = mod-lt a {m = suc b} (omega arith) in
    let none : suc (a % suc b) ≡ suc b → ⊥ = λ all. h (ap pos (mod-suc-full a b all)) in
    let e = div-suc-within a b (omega arith) in
    ap (λ n. neg_ℤ (pos n) -ℤ pos 1) e ∙ one_below (a / suc b)
floor-inexact (negsuc a) (negsuc b) given negative h =
    let small = mod-lt a {m = suc b} (omega arith) in
    let none : suc (a % suc b) ≡ suc b → ⊥ = λ all. h (ap pos (omega arith)) in
    let e = div-suc-within a b (omega arith) in
    one_less (a / suc b) ∙ ap pos (sym e)

-- an integer is in range where it has 128 bits
pub in_range_fits : (z : ℤ) → FitsSigned w128 z → Some z ≡ in_range z
in_range_fits (pos n) f = let s = f.sfits in grind (arith, nat_tests)
in_range_fits (negsuc n) f = let s = f.sfits in grind (arith, nat_tests)

pub in_range_checked : (r : Option ℤ) (z : ℤ) → SomeIff r (FitsSigned w128 z) z → r ≡ in_range z
in_range_checked r z h = search (rules, nat_tests)

pub quotient-floor : (x y q : ℤ) → is_zero y ≡ false → q ≡ floor x y → in_range q ≡ quotient x y
quotient-floor x y q given e = ap in_range e ∙ ap (λ (b : Bool). if b then None else in_range (floor x y)) (sym given)

-- a divisor of code
pub zero_from_bits : (y : ℤ) → 0 < cast_unsigned w128 y → is_zero y ≡ false
zero_from_bits (pos zero) h = absurd (omega arith)
zero_from_bits (pos (suc n)) h = refl
zero_from_bits (negsuc n) h = refl

pub zero_bits : (z : ℤ) → FitsSigned w128 z → cast_unsigned w128 z ≡ 0 → z ≡ pos 0
zero_bits (pos n) f h = ap pos h
zero_bits (negsuc n) f h = let s = f.sfits in absurd (omega (arith, s))

pub no_zero_bits : (z : ℤ) → (cast_unsigned w128 z ≡ 0 → ⊥) → z ≡ pos 0 → ⊥
no_zero_bits z h e = h (ap (cast_unsigned w128) e)

-- what is left, by numbers that add up
left_above : (a m r : ℕ) → m + r ≡ a → pos a -ℤ pos m ≡ pos r
left_above a m r h = omega (arith, ints)

left_below : (a m r : ℕ) → suc a + r ≡ m → negsuc a -ℤ neg_ℤ (pos m) ≡ pos r
left_below a m r h = omega (arith, ints)

less_above : (a m r b : ℕ) → a + suc b ≡ m + r → pos a -ℤ pos m ≡ pos r +ℤ negsuc b
less_above a m r b h = omega (arith, ints)

less_below : (a m r b : ℕ) → m + suc b ≡ suc a + r → negsuc a -ℤ neg_ℤ (pos m) ≡ pos r +ℤ negsuc b
less_below a m r b h = omega (arith, ints)

-- what a quotient leaves, where the divisor is above zero
pub rest-positive : (x y : ℤ) → lt_z (pos 0) y ≡ true → x -ℤ y *ℤ floor x y ≡ int_rem_euclid x y
rest-positive x (pos zero) h = absurd (not_above_itself h)
rest-positive (pos a) (pos (suc b)) h = left_above a (suc b * (a / suc b)) (a % suc b) (omega (arith, div-add-mod a (suc b)))
rest-positive (negsuc a) (pos (suc b)) h =
    let small = mod-lt a {m = suc b} (omega arith) in
    left_below a (suc b * suc (a / suc b)) (suc b - 1 - a % suc b) (omega (arith, div-add-mod a (suc b)))
rest-positive x (negsuc b) h = absurd cc

-- where nothing is left
pub rest-exact : (x y : ℤ) → is_zero y ≡ false → int_rem_euclid x y ≡ pos 0 → x -ℤ y *ℤ floor x y ≡ pos 0
rest-exact x (pos zero) given h = absurd cc
rest-exact (pos a) (pos (suc b)) given h = rest-positive (pos a) (pos (suc b)) (above b) ∙ h
rest-exact (negsuc a) (pos (suc b)) given h = rest-positive (negsuc a) (pos (suc b)) (above b) ∙ h
rest-exact (pos zero) (negsuc b) given h = ap (λ n. pos 0 -ℤ neg_ℤ (pos n)) (mul-zero (suc b))
rest-exact (pos (suc a)) (negsuc b) given h =
    let all = nothing_left a b (pos_inj _ _ h) in
    left_above (suc a) (suc b * suc (a / suc b)) 0 (omega (arith, div-add-mod a (suc b)))
rest-exact (negsuc a) (negsuc b) given h =
    let left : suc b - 1 - a % suc b ≡ 0 = pos_inj _ _ h in
    let small = mod-lt a {m = suc b} (omega arith) in
    let all : suc (a % suc b) ≡ suc b = omega arith in
    left_below a (suc b * (suc a / suc b)) 0 (omega (arith, div-add-mod (suc a) (suc b), mod-suc-full a b all))

-- else the remainder that is never negative is one divisor too large
pub rest-inexact : (x y : ℤ) → is_zero y ≡ false → lt_z (pos 0) y ≡ false → (int_rem_euclid x y ≡ pos 0 → ⊥) → x -ℤ y *ℤ floor x y ≡ int_rem_euclid x y +ℤ y
rest-inexact x (pos zero) given negative h = absurd cc
rest-inexact x (pos (suc b)) given negative h = absurd (not_above b negative)
rest-inexact (pos zero) (negsuc b) given negative h = absurd (h (ap pos (zero-mod (suc b))))
rest-inexact (pos (suc a)) (negsuc b) given negative h =
    let small = mod-lt a {m = suc b} (omega arith) in
    let none : suc (a % suc b) ≡ suc b → ⊥ = λ all. h (ap pos (mod-suc-full a b all)) in
    let one = mod-suc-within a b (omega arith) in
    less_above (suc a) (suc b * suc (a / suc b)) (suc a % suc b) b (omega (arith, div-add-mod a (suc b)))
rest-inexact (negsuc a) (negsuc b) given negative h =
    let small = mod-lt a {m = suc b} (omega arith) in
    let none : suc (a % suc b) ≡ suc b → ⊥ = λ all. h (ap pos (omega arith)) in
    let one = mod-suc-within a b (omega arith) in
    less_below a (suc b * (suc a / suc b)) (suc b - 1 - a % suc b) b (omega (arith, div-add-mod (suc a) (suc b)))

pub remainder-rest : (x y r : ℤ) → is_zero y ≡ false → r ≡ x -ℤ y *ℤ floor x y → in_range r ≡ remainder x y
remainder-rest x y r given e = ap in_range e ∙ ap (λ (b : Bool). if b then None else in_range (x -ℤ y *ℤ floor x y)) (sym given)

pub not_zero_from_bits : (y : ℤ) → (cast_unsigned w128 y ≡ 0 → ⊥) → is_zero y ≡ false
not_zero_from_bits (pos zero) h = absurd (h refl)
not_zero_from_bits (pos (suc n)) h = refl
not_zero_from_bits (negsuc n) h = refl

-- what a quotient leaves is less than the divisor, and of its sign
euclid_small : (x : ℤ) (b : ℕ) → (pos 0 ≤ℤ int_rem_euclid x (pos (suc b))) × (int_rem_euclid x (pos (suc b)) <ℤ pos (suc b))
euclid_small (pos a) b = let small = mod-lt a {m = suc b} (omega arith) in (omega (arith, ints), omega (arith, ints))
euclid_small (negsuc a) b = let small = mod-lt a {m = suc b} (omega arith) in (omega (arith, ints), omega (arith, ints))

some_left : (x : ℤ) (b : ℕ) → (int_rem_euclid x (negsuc b) ≡ pos 0 → ⊥) → (negsuc b <ℤ (int_rem_euclid x (negsuc b) +ℤ negsuc b)) × ((int_rem_euclid x (negsuc b) +ℤ negsuc b) ≤ℤ pos 0)
some_left (pos a) b h =
    let small = mod-lt a {m = suc b} (omega arith) in
    let some : a % suc b ≡ 0 → ⊥ = λ e. h (ap pos e) in
    (omega (arith, ints), omega (arith, ints))
some_left (negsuc a) b h =
    let small = mod-lt a {m = suc b} (omega arith) in
    let some : suc b - 1 - a % suc b ≡ 0 → ⊥ = λ e. h (ap pos e) in
    (omega (arith, ints), omega (arith, ints))

rest_below : (x : ℤ) (b : ℕ) (r : ℤ) (n : ℕ) → r ≡ int_rem_euclid x (negsuc b) → r ≡ pos n → IsRest (negsuc b) (x -ℤ negsuc b *ℤ floor x (negsuc b))
rest_below x b r zero is e =
    let none = rest-exact x (negsuc b) refl (sym is ∙ e) in
    subst (IsRest (negsuc b)) (sym none) (omega (arith, ints), omega (arith, ints))
rest_below x b r (suc n) is e =
    let some : int_rem_euclid x (negsuc b) ≡ pos 0 → ⊥ = λ none. absurd (suc_not_zero n (pos_inj _ _ (sym e ∙ is ∙ none))) in
    subst (IsRest (negsuc b)) (sym (rest-inexact x (negsuc b) refl refl some)) (some_left x b some)

not_negative : (x : ℤ) (b : ℕ) → (n : ℕ) × (int_rem_euclid x (negsuc b) ≡ pos n)
not_negative (pos a) b = (a % suc b, refl)
not_negative (negsuc a) b = (suc b - 1 - a % suc b, refl)

pub rest-is : (x y : ℤ) → is_zero y ≡ false → IsRest y (x -ℤ y *ℤ floor x y)
rest-is x (pos zero) given = absurd cc
rest-is x (pos (suc b)) given = subst (IsRest (pos (suc b))) (sym (rest-positive x (pos (suc b)) (above b))) (euclid_small x b)
rest-is x (negsuc b) given = let n = not_negative x b in rest_below x b (int_rem_euclid x (negsuc b)) n.0 refl n.1

in_range_is : (b : Bool) (z q : ℤ) → Some q ≡ (if b then Some z else None) → q ≡ z
in_range_is true z q e = cc
in_range_is false z q e = absurd cc

by_zero : (b : Bool) (o : Option ℤ) (q : ℤ) → Some q ≡ (if b then None else o) → (b ≡ false) × (Some q ≡ o)
by_zero true o q e = absurd cc
by_zero false o q e = (refl, e)

pub quotient-rest : (x y : ℤ) (r : Option ℤ) → r ≡ quotient x y → IfSome r (λ q. IsRest y (x -ℤ y *ℤ q))
quotient-rest x y None e = tt
quotient-rest x y (Some q) e =
    let parts = by_zero (is_zero y) (in_range (floor x y)) q e in
    subst (λ z. IsRest y (x -ℤ y *ℤ z)) (sym (in_range_is (is_in_range (floor x y)) (floor x y) q parts.1)) (rest-is x y parts.0)
