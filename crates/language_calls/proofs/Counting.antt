-- How many integers there are, by steps.
use Rattle.std.proofs.Common.{◌≡◌, ℕ, zero, suc, ◌+◌, ◌-◌, ◌<◌, ◌≤◌, ◌/◌, ◌*◌, Bool, true, false, refl, sym, ap, ◌∙◌, arith}
use Rattle.std.specs.Prelude.{nat_le, pos, Ok, Err, ◌&&◌, if◌then◌else◌}
use Rattle.std.proofs.Math.Nat.{mul-add-div_right}
use Rattle.std.proofs.lemmas.Bool.Decides.{nat_tests}
use Rattle.std.proofs.lemmas.Nat.{div-mul-add}
use Rattle.language_calls.specs.Range.{how_many, integers_from}
use Rattle.values.specs.Data.{item, no_items, integer, count}
use Rattle.values.specs.Data.{list}
use Rattle.values.specs.Limits.{within}
use Rattle.values.specs.Weight.{items_weight, items_depth}
use Rattle.values.specs.declared.refusal.OperationRefusal.TheVariants as refusals

-- none where the start is not below the stop
pub none_left : (start stop less : ℕ) → stop ≤ start → how_many start stop less ≡ 0
none_left start stop less past =
    let e : stop - start + less ≡ 0 * (less + 1) + less = omega (arith, past) in
    ap (λ n. n / (less + 1)) e ∙ div-mul-add 0 (less + 1) less (omega arith)

on_by : (start stop less : ℕ) (b : Bool) → start < stop → nat_le (start + (less + 1)) stop ≡ b
    → how_many start stop less ≡ suc (how_many (start + (less + 1)) stop less)
on_by start stop less true before test =
    let more : start + (less + 1) ≤ stop = grind (arith, nat_tests) in
    let e : stop - start + less ≡ 1 * (less + 1) + (stop - (start + (less + 1)) + less) = omega (arith, more) in
    let one : 1 + how_many (start + (less + 1)) stop less ≡ suc (how_many (start + (less + 1)) stop less) = omega arith in
    ap (λ n. n / (less + 1)) e ∙ mul-add-div_right {m = less + 1} (omega arith) 1 (stop - (start + (less + 1)) + less) ∙ one
on_by start stop less false before test =
    let last : stop < start + (less + 1) = grind (arith, nat_tests) in
    let e : stop - start + less ≡ 1 * (less + 1) + (stop - start - 1) = omega (arith, before, last) in
    ap (λ n. n / (less + 1)) e ∙ div-mul-add 1 (less + 1) (stop - start - 1) (omega (arith, before, last))
    ∙ ap suc (sym (none_left (start + (less + 1)) stop less (omega (arith, last))))

-- one more than from the next on
pub one_more : (start stop less : ℕ) → start < stop → how_many start stop less ≡ suc (how_many (start + (less + 1)) stop less)
one_more start stop less before = on_by start stop less (nat_le (start + (less + 1)) stop) before refl

-- the first and those from the next on
pub first_of : (start stop step : ℕ) → 0 < step → start < stop → integers_from (how_many start stop (step - 1)) start step
    ≡ item (integer (pos start)) (integers_from (how_many (start + step) stop (step - 1)) (start + step) step)
first_of start stop step some before =
    let e : step - 1 + 1 ≡ step = omega (arith, some) in
    ap (λ n. integers_from n start step) (one_more start stop (step - 1) before)
    ∙ ap (λ s. item (integer (pos start)) (integers_from (how_many (start + s) stop (step - 1)) (start + step) step)) e

-- and none
pub none_of : (start stop step : ℕ) → stop ≤ start → integers_from (how_many start stop (step - 1)) start step ≡ no_items
none_of start stop step past = ap (λ n. integers_from n start step) (none_left start stop (step - 1) past)

-- as many as are asked for
pub count_from : (n start step : ℕ) → count (integers_from n start step) ≡ n
count_from zero start step = refl
count_from (suc n) start step = ap suc (count_from n (start + step) step)

-- too many for a list
pub too_many : (n start step : ℕ) → 65536 < n → within (list (integers_from n start step)) ≡ Err refusals.Limit
too_many n start step past =
    let ds = integers_from n start step in
    let e : nat_le n 65536 ≡ false = grind (arith, nat_tests) in
    ap (λ b. if b && (nat_le (items_weight ds + 1) 33554432 && nat_le (items_depth ds + 1) 64) then Ok (list ds) else Err refusals.Limit)
    (ap (λ k. nat_le k 65536) (count_from n start step) ∙ e)
