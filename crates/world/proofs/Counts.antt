-- Marks as counts of events.
use Rattle.std.proofs.Common.{◌≡◌, ℕ, ◌+◌, ◌≤◌, Bool, true, false, List, [], ◌∷◌, ◌++◌, length, refl, ap, arith}
use Rattle.std.specs.Prelude.{if◌then◌else◌, nat_lt}
use Rattle.std.proofs.lemmas.Bool.Decides.{nat_tests}
use Rattle.world.specs.Trace.{Mark, Told, Ended, steps_of, ends_of}
use Rattle.world.specs.Counts.{counts_from, below, EndsKeepUp}

not_below : (k n : ℕ) → k ≤ n → nat_lt n k ≡ false
not_below k n h = grind (arith, nat_tests)

-- no count is less than those before it
none_below : (k n : ℕ) (ms : List Mark) → k ≤ n → below k (counts_from n ms) ≡ 0
none_below k n [] h = refl
none_below k n (Told e ∷ ms) h = none_below k (n + 1) ms (omega arith)
none_below k n (Ended ∷ ms) h =
    let e : ◌≡◌ {A = ℕ} (if nat_lt n k then 1 else 0) 0 = ap (λ (b : Bool). let x : ℕ = if b then 1 else 0 in x) (not_below k n h) in
    omega (arith, e, none_below k n ms h)

at_most_one : (b : Bool) → (if b then 1 else 0) ≤ 1
at_most_one true = omega arith
at_most_one false = omega arith

keeps_up : (k n : ℕ) (made left : List Mark) → k ≡ n + length (steps_of made) → below k (counts_from n (made ++ left)) ≤ ends_of made
keeps_up k n [] left e = omega (arith, none_below k n left (omega (arith, e)))
keeps_up k n (Told x ∷ made) left e = keeps_up k (n + 1) made left (omega (arith, e))
keeps_up k n (Ended ∷ made) left e = omega (arith, keeps_up k n made left e, at_most_one (nat_lt n k))

pub ends_keep_up : EndsKeepUp
ends_keep_up made left = keeps_up (length (steps_of made)) 0 made left (omega arith)
