-- Decimal digits of any length, and the numbers that they spell.
use Rattle.std.proofs.Common.{◌≡◌, ℕ, suc, ◌+◌, ◌-◌, ◌*◌, ◌^◌, ◌<◌, ◌≤◌, true, List, [], ◌∷◌, length, refl, sym, ap, ◌∙◌, arith, lit<}
use Rattle.std.proofs.Common.{⊎_elim, inl, inr}
use Rattle.std.specs.Prelude.{◌⊎◌, ◌≢◌, slice_get, Some}
use Rattle.std.specs.List.{AllPass}
use Rattle.std.specs.Ordering.{nat_cmp, ordering_then}
use Rattle.std.specs.declared.cmp.Ordering.{Ordering}
use Rattle.std.specs.declared.cmp.Ordering.TheVariants.{Less, Equal, Greater}
use Rattle.std.specs.Char.{is_ascii_digit}
use Rattle.std.specs.Cmp.{nat_cmp_is}
use Rattle.std.specs.Cmp.Lexicographic.{slice_cmp}
use Rattle.std.proofs.lemmas.List.Elements.{All-head, All-tail}
use Rattle.std.proofs.lemmas.Bool.{cases_lt}
use Rattle.std.proofs.Math.Nat.{pow-suc, mul-le-mul_right, pow-le-pow_right}
use Rattle.versions.specs.Version.{integer_of_digits}

pub digit_bounds : (d : ℕ) → is_ascii_digit d ≡ true → (48 ≤ d) × (d ≤ 57)
digit_bounds d h = (grind arith, grind arith)

digit_place : (d n s : ℕ) → d ≤ 57 → s < 10 ^ n → (d - 48) * 10 ^ n + s < 10 ^ suc n
digit_place d n s h below =
    let at_most : (d - 48) * 10 ^ n ≤ 9 * 10 ^ n = mul-le-mul_right (10 ^ n) (omega arith) in
    rw pow-suc (omega arith)

-- n digits spell less than 10 to the n
pub spelled-lt : (ds : List ℕ) → AllPass is_ascii_digit ds → integer_of_digits ds < 10 ^ length ds
spelled-lt [] h = lit< tt
spelled-lt (d ∷ ds) h =
    digit_place d (length ds) (integer_of_digits ds) (digit_bounds d (All-head (λ x. is_ascii_digit x ≡ true) d ds h)).1 (spelled-lt ds (All-tail (λ x. is_ascii_digit x ≡ true) d ds h))

pub nat_cmp-less : (x y : ℕ) → x < y → nat_cmp x y ≡ Less
nat_cmp-less x y h = sym (nat_cmp_is x y Less h)

pub nat_cmp-greater : (x y : ℕ) → y < x → nat_cmp x y ≡ Greater
nat_cmp-greater x y h = sym (nat_cmp_is x y Greater h)

pub nat_cmp-equal : (x y : ℕ) → x ≡ y → nat_cmp x y ≡ Equal
nat_cmp-equal x y h = sym (nat_cmp_is x y Equal h)

cases_cmp : (x y : ℕ) → (x < y) ⊎ ((x ≡ y) ⊎ (y < x))
cases_cmp x y = ⊎_elim inl (λ g. inr (⊎_elim (λ h. inr h) (λ h. inl (omega arith)) (cases_lt y x))) (cases_lt x y)

-- the order of two numbers stays where the same is added to both
nat_cmp-add : (a x y : ℕ) → nat_cmp x y ≡ nat_cmp (a + x) (a + y)
nat_cmp-add a x y =
    ⊎_elim
    (λ l. nat_cmp-less x y l ∙ sym (nat_cmp-less (a + x) (a + y) (omega arith)))
    (⊎_elim (λ e. nat_cmp-equal x y e ∙ sym (nat_cmp-equal (a + x) (a + y) (omega arith))) (λ g. nat_cmp-greater x y g ∙ sym (nat_cmp-greater (a + x) (a + y) (omega arith))))
    (cases_cmp x y)

higher_place : (x y p s t : ℕ) → x < y → s < p → x * p + s < y * p + t
higher_place x y p s t h below =
    let step : suc x * p ≤ y * p = mul-le-mul_right p (omega arith) in
    let e : suc x * p ≡ x * p + p = omega arith in
    omega arith

order_at : (x y n s t : ℕ) (later : Ordering) → 48 ≤ x → 48 ≤ y → s < 10 ^ n → t < 10 ^ n → later ≡ nat_cmp s t
    → ordering_then (nat_cmp x y) later ≡ nat_cmp ((x - 48) * 10 ^ n + s) ((y - 48) * 10 ^ n + t)
order_at x y n s t later hx hy hs ht e =
    ⊎_elim
    (λ l. ap (λ o. ordering_then o later) (nat_cmp-less x y l) ∙ sym (nat_cmp-less _ _ (higher_place (x - 48) (y - 48) (10 ^ n) s t (omega arith) hs)))
    (⊎_elim
    (λ same. ap (λ o. ordering_then o later) (nat_cmp-equal x y same) ∙ e ∙ nat_cmp-add ((x - 48) * 10 ^ n) s t ∙ ap (λ z. nat_cmp ((x - 48) * 10 ^ n + s) ((z - 48) * 10 ^ n + t)) same)
    (λ g. ap (λ o. ordering_then o later) (nat_cmp-greater x y g) ∙ sym (nat_cmp-greater _ _ (higher_place (y - 48) (x - 48) (10 ^ n) t s (omega arith) ht))))
    (cases_cmp x y)

-- as many digits: their bytes decide
pub same_length_order : (ds es : List ℕ) → AllPass is_ascii_digit ds → AllPass is_ascii_digit es → length ds ≡ length es
    → slice_cmp nat_cmp ds es ≡ nat_cmp (integer_of_digits ds) (integer_of_digits es)
same_length_order [] [] hd he e = refl
same_length_order [] (y ∷ ys) hd he e = absurd (omega arith)
same_length_order (x ∷ xs) [] hd he e = absurd (omega arith)
same_length_order (x ∷ xs) (y ∷ ys) hd he e =
    let long : length xs ≡ length ys = omega arith in
    let dx = All-tail (λ z. is_ascii_digit z ≡ true) x xs hd in
    let dy = All-tail (λ z. is_ascii_digit z ≡ true) y ys he in
    let bx = digit_bounds x (All-head (λ z. is_ascii_digit z ≡ true) x xs hd) in
    let by = digit_bounds y (All-head (λ z. is_ascii_digit z ≡ true) y ys he) in
    let below : integer_of_digits ys < 10 ^ length xs = rw long (spelled-lt ys dy) in
    order_at x y (length xs) (integer_of_digits xs) (integer_of_digits ys) (slice_cmp nat_cmp xs ys) bx.0 by.0 (spelled-lt xs dx) below (same_length_order xs ys dx dy long)
    ∙ ap (λ n. nat_cmp (integer_of_digits (x ∷ xs)) ((y - 48) * 10 ^ n + integer_of_digits ys)) long

-- digits without a zero in front spell at least the place of the first
pub place-le-spelled : (d : ℕ) (ds : List ℕ) → 48 < d → 10 ^ length ds ≤ integer_of_digits (d ∷ ds)
place-le-spelled d ds h =
    let step : 1 * 10 ^ length ds ≤ (d - 48) * 10 ^ length ds = mul-le-mul_right (10 ^ length ds) (omega arith) in
    omega arith

-- of two without zeros in front, the longer spells more
pub longer_spells_more : (ds es : List ℕ) → AllPass is_ascii_digit ds → AllPass is_ascii_digit es → slice_get es 0 ≢ Some 48 → length ds < length es → integer_of_digits ds < integer_of_digits es
longer_spells_more ds [] hd he z l = absurd (omega arith)
longer_spells_more ds (y ∷ ys) hd he z l =
    let b = digit_bounds y (All-head (λ x. is_ascii_digit x ≡ true) y ys he) in
    let not_zero : y ≢ 48 = λ e. z (ap Some e) in
    let place : 10 ^ length ys ≤ integer_of_digits (y ∷ ys) = place-le-spelled y ys (omega arith) in
    let wide : 10 ^ length ds ≤ 10 ^ length ys = pow-le-pow_right (omega arith) (omega arith) in
    let below = spelled-lt ds hd in
    omega arith

-- a zero in front counts for nothing
pub zero_taken : (ds rest : List ℕ) (d : ℕ) → ds ≡ d ∷ rest → d ≡ 48 → integer_of_digits rest ≡ integer_of_digits ds
zero_taken ds rest d split is_zero =
    let counts : integer_of_digits (48 ∷ rest) ≡ integer_of_digits rest = omega arith in
    sym counts ∙ ap (λ z. integer_of_digits (z ∷ rest)) (sym is_zero) ∙ ap integer_of_digits (sym split)

-- of two of different lengths without zeros in front, the longer spells more
pub lengths_decide : (ds es : List ℕ) → AllPass is_ascii_digit ds → AllPass is_ascii_digit es → slice_get ds 0 ≢ Some 48 → slice_get es 0 ≢ Some 48 → length ds ≢ length es
    → nat_cmp (length ds) (length es) ≡ nat_cmp (integer_of_digits ds) (integer_of_digits es)
lengths_decide ds es hd he zd ze n =
    ⊎_elim
    (λ l. nat_cmp-less (length ds) (length es) l ∙ sym (nat_cmp-less _ _ (longer_spells_more ds es hd he ze l)))
    (⊎_elim (λ e. absurd (n e)) (λ g. nat_cmp-greater (length ds) (length es) g ∙ sym (nat_cmp-greater _ _ (longer_spells_more es ds he hd zd g))))
    (cases_cmp (length ds) (length es))
