-- The integer that a text spells, as `parse` finds it.
use Rattle.std.proofs.Common.{◌≡◌, ℕ, ◌^◌, ◌<◌, ◌≤◌, Bool, true, false, List, [], ◌∷◌, length, get_or, ℤ, pos, neg_ℤ, Option, Some, None}
use Rattle.std.proofs.Common.{Result, Ok, Err, refl, sym, ap, ◌∙◌, arith, ⊎_elim, if◌then◌else◌}
use Rattle.std.specs.Prelude.{◌==◌, ◌&&◌, ◌≢◌, ◌⊎◌, nat_lt, nat_le}
use Rattle.std.specs.Int.{w64}
use Rattle.std.specs.Result.{OkIff, result_ok}
use Rattle.std.specs.Str.{all_ascii_digits}
use Rattle.std.specs.Str.Parse.{ParsesSigned, digits_value}
use Rattle.std.proofs.lemmas.Bool.{false≢true}
use Rattle.std.proofs.lemmas.Bool.Decides.{nat_tests}
use Rattle.std.proofs.lemmas.Str.Parse.{IsNumeralModel, numerals_by_value, tells_all_ascii_digits, parse_signed_minus, parse_signed_plain}
use Rattle.syntax.specs.lexer.Bytes.{minus}
use Rattle.machine_file.specs.Numbers as machine
use Rattle.option_values.specs.Integers.{integer_of}

own : IsNumeralModel (λ ds. all_ascii_digits ds ≡ true) (digits_value 10)
own = numerals_by_value (λ ds. all_ascii_digits ds ≡ true) tells_all_ascii_digits

-- the integer of these digits, behind a minus sign or not
abbrev spelled : Bool → List ℕ → Option ℤ
spelled negative ds = if nat_lt 0 (length ds) && all_ascii_digits ds then machine.integer_of negative (digits_value 10 ds) else None

taken : (a b c : Bool) (x v : ℤ) → a ≡ true → b ≡ true → c ≡ true → x ≡ v → Some x ≡ (if a && b then (if c then Some v else None) else None)
taken true true true x v p q r e = ap Some e
taken false b c x v p q r e = absurd (false≢true p)
taken true false c x v p q r e = absurd (false≢true q)
taken true true false x v p q r e = absurd (false≢true r)

refused : (a b c : Bool) (v : ℤ) → (a ≡ true → b ≡ true → c ≡ true → ⊥) → None ≡ (if a && b then (if c then Some v else None) else None)
refused true true true v h = absurd (h refl refl refl)
refused false b c v h = refl
refused true false c v h = refl
refused true true false v h = refl

some_from_test : (n : ℕ) → nat_lt 0 n ≡ true → 0 < n
some_from_test n h = grind (arith, nat_tests)

test_from_some : (n : ℕ) → 0 < n → nat_lt 0 n ≡ true
test_from_some n h = grind (arith, nat_tests)

le_from_test : (m n : ℕ) → nat_le m n ≡ true → m ≤ n
le_from_test m n h = grind (arith, nat_tests)

test_from_le : (m n : ℕ) → m ≤ n → nat_le m n ≡ true
test_from_le m n h = grind (arith, nat_tests)

negative_read : {E : Type 0} (ds : List ℕ) (r : Result ℤ E)
    → OkIff r ((all_ascii_digits ds ≡ true) × (0 < length ds) × (digits_value 10 ds ≤ 2 ^ 63)) (neg_ℤ (pos (digits_value 10 ds)))
    → result_ok r ≡ spelled true ds
unfolding machine.greatest
negative_read ds (Ok x) h = taken _ _ _ x _ (test_from_some _ h.0.1) h.0.0 (test_from_le _ _ h.0.2) h.1
negative_read ds (Err e) h = refused _ _ _ _ (λ a b c. h (b, some_from_test _ a, le_from_test _ _ c))

plain_read : {E : Type 0} (ds : List ℕ) (r : Result ℤ E)
    → OkIff r ((all_ascii_digits ds ≡ true) × (0 < length ds) × (digits_value 10 ds < 2 ^ 63)) (pos (digits_value 10 ds))
    → result_ok r ≡ spelled false ds
unfolding machine.greatest
plain_read ds (Ok x) h = taken _ _ _ x _ (test_from_some _ h.0.1) h.0.0 (test_from_le _ _ (omega (arith, h.0.2))) h.1
plain_read ds (Err e) h = refused _ _ _ _ (λ a b c. h (b, some_from_test _ a, omega (arith, le_from_test _ _ c)))

choose : (v : Bool) (b : ℕ) (bs : List ℕ) (o : Option ℤ) → (b == minus) ≡ v → o ≡ spelled v (if v then bs else b ∷ bs)
    → o ≡ integer_of (b ∷ bs)
choose v b bs o e h = h ∙ ap (λ w. spelled w (if w then bs else b ∷ bs)) (sym e)

cases : (b : ℕ) → (b ≡ 45) ⊎ (b ≢ 45)
cases b = search arith

is_minus : (b : ℕ) → b ≡ 45 → (b == minus) ≡ true
is_minus b e = grind (arith, nat_tests)

is_other : (b : ℕ) → b ≢ 45 → (b == minus) ≡ false
is_other b e = grind (arith, nat_tests)

pub integer_read : {E : Type 0} (text : List ℕ) (r : Result ℤ E) → ParsesSigned w64 10 text r → get_or text 0 0 ≢ 43
    → result_ok r ≡ integer_of text
integer_read [] r h plus = plain_read [] r (parse_signed_plain own w64 [] r h plus (omega arith))
integer_read (b ∷ bs) r h plus = ⊎_elim
    (λ e. choose true b bs (result_ok r) (is_minus b e) (negative_read bs r (parse_signed_minus own w64 (b ∷ bs) r h e)))
    (λ n. choose false b bs (result_ok r) (is_other b n) (plain_read (b ∷ bs) r (parse_signed_plain own w64 (b ∷ bs) r h plus n)))
    (cases b)
