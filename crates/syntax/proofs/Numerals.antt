-- What digits spell.
use Rattle.std.proofs.Common.{◌≡◌, ℕ, ◌+◌, ◌*◌, ◌<◌, ◌≤◌, List, [], ◌∷◌, length, drop, get_or, refl, sym, ap, ◌∙◌, arith, add-one}
use Rattle.std.proofs.Common.{length-drop}
use Rattle.std.proofs.Math.Seq.{drop-cons}
use Rattle.std.proofs.Math.Nat.{mul-le-mul_left}
use Rattle.syntax.specs.lexer.Numerals.{digit, number_in_base}

spelled_none : (base n : ℕ) (ds : List ℕ) → length ds ≡ 0 → number_in_base base n ds ≡ n
unfolding number_in_base
spelled_none base n [] e = refl
spelled_none base n (d ∷ ds) e = absurd (omega arith)

pub spelled-nil : (base n : ℕ) (ds : List ℕ) (i : ℕ) → length ds ≤ i → number_in_base base n (drop i ds) ≡ n
spelled-nil base n ds i l = spelled_none base n (drop i ds) (omega (arith, length-drop i ds))

pub spelled-step : (base n : ℕ) (ds : List ℕ) (i : ℕ) → i < length ds → number_in_base base n (drop i ds) ≡ number_in_base base (n * base + digit (get_or ds i 0)) (drop (i + 1) ds)
unfolding number_in_base
spelled-step base n ds i l = ap (number_in_base base n) (drop-cons ds i 0 l ∙ ap (λ m. get_or ds i 0 ∷ drop m ds) (sym (add-one i)))

-- further digits spell no less
pub spelled-le : (base n : ℕ) (ds : List ℕ) → 1 ≤ base → n ≤ number_in_base base n ds
unfolding number_in_base
spelled-le base n [] h = omega arith
spelled-le base n (d ∷ ds) h =
    let more : n * 1 ≤ n * base = mul-le-mul_left n h in
    let rest = spelled-le base (n * base + digit d) ds h in
    omega arith

-- where the number so far and a digit pass a limit, so does the whole
pub overflows : (base v : ℕ) (ds : List ℕ) (i m : ℕ) → 1 ≤ base → i < length ds → number_in_base base v (drop i ds) ≡ number_in_base base 0 ds
    → m ≤ v * base + digit (get_or ds i 0) → number_in_base base 0 ds < m → ⊥
overflows base v ds i m h l e over under =
    let step = spelled-step base v ds i l in
    let least = spelled-le base (v * base + digit (get_or ds i 0)) (drop (i + 1) ds) h in
    omega arith
