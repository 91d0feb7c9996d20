-- What is reached by steps below a stop.
use Rattle.std.proofs.Common.{◌≡◌, ℕ, zero, suc, ◌+◌, ◌*◌, ◌<◌, ◌≤◌, Bool, true, false, Some, None, refl, ap, ◌∙◌, arith}
use Rattle.std.specs.Prelude.{◌↔◌, nat_lt, pos}
use Rattle.std.proofs.Math.Nat.{suc-mul}
use Rattle.std.proofs.lemmas.Bool.Decides.{nat_tests}
use Rattle.values.specs.Data.{integer}
use Rattle.language_calls.specs.Range.{how_many, integers_from}
use Rattle.language_calls.specs.RangeLaw.{item_at, RangeIsBelow}
use Rattle.language_calls.proofs.Counting.{one_more, none_left}

-- a place of the list, and its integer below the stop
below : (k start stop less : ℕ) (b : Bool) → nat_lt start stop ≡ b → (k < how_many start stop less) ↔ (start + k * (less + 1) < stop)
below k start stop less false test =
    let past : stop ≤ start = grind (arith, nat_tests) in
    let none : how_many start stop less ≡ 0 = none_left start stop less past in
    (λ h. absurd (omega (arith, h, none)), λ h. absurd (omega (arith, h, past)))
below zero start stop less true test =
    let before : start < stop = grind (arith, nat_tests) in
    let more = one_more start stop less before in
    (λ h. omega (arith, before), λ h. omega (arith, more))
below (suc k) start stop less true test =
    let before : start < stop = grind (arith, nat_tests) in
    let more = one_more start stop less before in
    let next = below k (start + (less + 1)) stop less (nat_lt (start + (less + 1)) stop) refl in
    let e : suc k * (less + 1) ≡ k * (less + 1) + (less + 1) = suc-mul k (less + 1) in
    (λ h. omega (arith, e, next.0 (omega (arith, h, more))), λ h. omega (arith, more, next.1 (omega (arith, h, e))))

found : (n k start step : ℕ) → k < n → item_at (integers_from n start step) k ≡ Some (integer (pos (start + k * step)))
found zero k start step h = absurd (omega (arith, h))
found (suc n) zero start step h = ap (λ m. Some (integer (pos m))) (let e : start ≡ start + 0 * step = omega arith in e)
found (suc n) (suc k) start step h =
    let e : start + step + k * step ≡ start + suc k * step = omega (arith, suc-mul k step) in
    found n k (start + step) step (omega (arith, h)) ∙ ap (λ m. Some (integer (pos m))) e

past_all : (n k start step : ℕ) → n ≤ k → item_at (integers_from n start step) k ≡ None
past_all zero k start step h = refl
past_all (suc n) zero start step h = absurd (omega (arith, h))
past_all (suc n) (suc k) start step h = past_all n k (start + step) step (omega (arith, h))

pub range_does : RangeIsBelow
range_does start stop less = (
  λ k. below k start stop less (nat_lt start stop) refl,
  λ k h. found (how_many start stop less) k start (less + 1) h,
  λ k h. past_all (how_many start stop less) k start (less + 1) h,
)
