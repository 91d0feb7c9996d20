-- Why a text spells no integer.
use Rattle.std.proofs.Common.{◌≡◌, ℕ, ◌<◌, Bool, true, false, List, [], ◌∷◌, length, ℤ, pos, negsuc, refl, Ok, Err, arith}
use Rattle.std.specs.Prelude.{if◌then◌else◌}
use Rattle.std.specs.Char.{is_ascii_digit, digit_value}
use Rattle.std.specs.Int.{w128}
use Rattle.std.specs.Prelude.{FitsSigned, nat_lt}
use Rattle.std.specs.List.{list_all}
use Rattle.std.specs.Str.Parse.{AllDigits, IsNumeral, without_leading_sign, signed_digits_value}
use Rattle.std.proofs.lemmas.Bool.{false≢true, and_parts}
use Rattle.std.proofs.lemmas.Bool.Decides.{nat_tests}
use Rattle.values.specs.declared.refusal.OperationRefusal.TheVariants as refusal
use Rattle.support.specs.Limits.{is_in_range}
use Rattle.values.specs.texts.Number.{is_numeral, integer_of}

pub digit_below_ten : (c : ℕ) → is_ascii_digit c ≡ true → digit_value c < 10
digit_below_ten c h = grind (arith, nat_tests)

pub AllDigits-from_test : (ds : List ℕ) → list_all is_ascii_digit ds ≡ true → AllDigits 10 ds
AllDigits-from_test [] h = tt
AllDigits-from_test (d ∷ ds) h =
    let parts = and_parts (is_ascii_digit d) (list_all is_ascii_digit ds) h in
    (digit_below_ten d parts.0, AllDigits-from_test ds parts.1)

IsNumeral-from_test : (text : List ℕ) → is_numeral text ≡ true → IsNumeral 10 (without_leading_sign text)
IsNumeral-from_test text h =
    let ds = without_leading_sign text in
    let parts = and_parts (nat_lt 0 (length ds)) (list_all is_ascii_digit ds) h in
    let some : 0 < length ds = grind (arith, nat_tests) in
    (some, AllDigits-from_test ds parts.1)

fits_from_range : (z : ℤ) → is_in_range z ≡ true → FitsSigned w128 z
fits_from_range (pos n) h = grind (arith, nat_tests)
fits_from_range (negsuc n) h = grind (arith, nat_tests)

refused : (n b : Bool) (v : ℤ) → n ≡ true → (b ≡ true → ⊥)
    → (if n then (if b then Ok v else Err refusal.Range) else Err refusal.Arguments) ≡ Err refusal.Range
refused true false v e h = refl
refused true true v e h = absurd (h refl)
refused false b v e h = absurd (false≢true e)

pub out_of_range : (text : List ℕ) → is_numeral text ≡ true → ¬ (IsNumeral 10 (without_leading_sign text) × FitsSigned w128
    (signed_digits_value 10 text)) → integer_of text ≡ Err refusal.Range
out_of_range text numeral large =
    refused (is_numeral text) (is_in_range (signed_digits_value 10 text)) (signed_digits_value 10 text) numeral
    (λ small. large (IsNumeral-from_test text numeral, fits_from_range (signed_digits_value 10 text) small))
