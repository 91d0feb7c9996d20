-- Digits, and what stands behind a beginning.
use Rattle.std.proofs.Common.{◌≡◌, ℕ, ◌<◌, Bool, true, false, cond, eqb, List, [], ◌∷◌, ◌++◌, length, drop, Option, Some, None, MatchOption}
use Rattle.std.proofs.Common.{Bor, option_map, refl, sym, ap, ◌∙◌, arith}
use Rattle.std.specs.Prelude.{◌&&◌, nat_lt}
use Rattle.std.specs.Char.{is_ascii_digit, digit_value}
use Rattle.std.specs.List.{list_all, starts_with}
use Rattle.std.specs.Str.Parse.{AllDigits, IsNumeral}
use Rattle.std.specs.Str.Pattern.{FindsTextPrefix, StripsPrefix}
use Rattle.std.proofs.lemmas.Bool.{false≢true}
use Rattle.std.proofs.lemmas.Bool.Decides.{nat_tests, Decides-eqb}
use Rattle.std.proofs.lemmas.List.Prefix.{front_rest}
use Rattle.std.proofs.lemmas.Slice.Eq.{starts_is}
use Rattle.sources.specs.Holes.{is_number, rest_after}

digit_below_ten : (c : ℕ) → is_ascii_digit c ≡ true → digit_value c < 10
digit_below_ten c h = grind (arith, nat_tests)

both : (a b : Bool) → (a && b) ≡ true → (a ≡ true) × (b ≡ true)
both true b h = (refl, h)
both false b h = absurd (false≢true h)

AllDigits-from_test : (ds : List ℕ) → list_all is_ascii_digit ds ≡ true → AllDigits 10 ds
AllDigits-from_test [] h = tt
AllDigits-from_test (d ∷ ds) h =
    let parts = both (is_ascii_digit d) (list_all is_ascii_digit ds) h in
    (digit_below_ten d parts.0, AllDigits-from_test ds parts.1)

pub IsNumeral-from_test : (ds : List ℕ) → is_number ds ≡ true → IsNumeral 10 ds
IsNumeral-from_test ds h =
    let parts = both (nat_lt 0 (length ds)) (list_all is_ascii_digit ds) h in
    let some : 0 < length ds = grind (arith, nat_tests) in
    (some, AllDigits-from_test ds parts.1)

cond_yes : {A : Type 0} (b : Bool) (x y : A) → b ≡ true → cond b x y ≡ x
cond_yes true x y e = refl
cond_yes false x y e = cc

cond_no : {A : Type 0} (b : Bool) (x y : A) → (b ≡ true → ⊥) → cond b x y ≡ y
cond_no true x y never = absurd (never refl)
cond_no false x y never = refl

-- what `strip_prefix` says
pub strips : (front text : List ℕ) (r : Option (Bor (List ℕ))) → MatchOption r (FindsTextPrefix front text None) (λ x. StripsPrefix (FindsTextPrefix front) text x.now)
    → option_map (λ s. s.now) r ≡ rest_after front text
strips front text None lacks =
    sym (cond_no (starts_with eqb text front) (Some (drop (length front) text)) None
    (λ e. lacks (drop (length front) text) ((starts_is Decides-eqb text front (starts_with eqb text front) refl).0 e)))
strips front text (Some x) h =
    let is : text ≡ front ++ x.now = h.1.1 ∙ ap (λ l. front ++ l) (sym h.2) in
    sym (cond_yes (starts_with eqb text front) (Some (drop (length front) text)) None ((starts_is Decides-eqb text front (starts_with eqb text front) refl).1 x.now is) ∙ ap Some (front_rest text front x.now is))
