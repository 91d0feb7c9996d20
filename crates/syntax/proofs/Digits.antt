-- Numbers are made of what words go on with.
use Rattle.std.proofs.Common.{◌≡◌, ◌≢◌, ℕ, ◌-◌, ◌≤◌, ◌<◌, true, false, List, [], ◌∷◌, length, take, drop, get_or, refl, sym, ap, subst, ◌∙◌}
use Rattle.std.proofs.Common.{inl, inr, arith}
use Rattle.std.specs.Prelude.{◌==◌, ◌||◌}
use Rattle.std.specs.Char.{is_ascii_digit, is_ascii_hexdigit}
use Rattle.std.specs.List.{list_all}
use Rattle.std.proofs.lemmas.Bool.{eqb-true, eq-eqb, cases_Bool, or_right, ne_eqb, cond-true, cond-false}
use Rattle.std.proofs.lemmas.Bool.Decides.{nat_tests}
use Rattle.syntax.specs.lexer.Bytes.{digit_zero, is_letter, continues_word}
use Rattle.syntax.specs.lexer.Numbers.{lower_x, upper_x, lower_o, upper_o, lower_b, upper_b, is_octal_digit, is_binary_digit, is_digit_of}
use Rattle.syntax.specs.lexer.Numbers.{is_behind_zero, is_number}
use Rattle.syntax.proofs.Runs.{all_both, all_first, all_weaker, take_all, first_holds}

-- ---- digits

pub digit_word : (b : ℕ) → is_ascii_digit b ≡ true → continues_word b ≡ true
digit_word b h = or_right (is_letter b) (is_ascii_digit b) h

pub digit_letter : (b : ℕ) → is_ascii_digit b ≡ true → is_letter b ≡ false
digit_letter b h = grind (arith, nat_tests)

hex_word : (b : ℕ) → is_ascii_hexdigit b ≡ true → continues_word b ≡ true
hex_word b h = grind (arith, nat_tests)

octal_word : (b : ℕ) → is_octal_digit b ≡ true → continues_word b ≡ true
octal_word b h = grind (arith, nat_tests)

binary_word : (b : ℕ) → is_binary_digit b ≡ true → continues_word b ≡ true
binary_word b h = grind (arith, nat_tests)

-- one of two bytes
either : (P : ℕ → Type 0) (b x y : ℕ) → ((b == x) || (b == y)) ≡ true → P x → P y → P b
either P b x y h p q = elim (cases_Bool (b == y)) [
  | inl e ↦ subst P (sym (eqb-true b y e)) q
  | inr n ↦ subst P (sym (eqb-true b x (first_holds (b == x) (b == y) h n))) p
]

record Based (letter d : ℕ) : Type 0 where
  pub first : continues_word letter ≡ true
  pub digit : continues_word d ≡ true

abbrev IsWord : ℕ → Type 0
IsWord b = continues_word b ≡ true

based : (letter d : ℕ) → is_digit_of letter d ≡ true → Based letter d
based letter d h = elim (cases_Bool ((letter == lower_x) || (letter == upper_x))) [
  | inl x ↦ record { first = either IsWord letter lower_x upper_x x refl refl; digit = hex_word d (sym (cond-true _ _ _ x) ∙ h) }
  | inr not_x ↦ elim (cases_Bool ((letter == lower_o) || (letter == upper_o))) [
    | inl o ↦ record { first = either IsWord letter lower_o upper_o o refl refl; digit = octal_word d (sym (cond-false _ _ _ not_x ∙ cond-true _ _ _ o) ∙ h) }
    | inr not_o ↦ elim (cases_Bool ((letter == lower_b) || (letter == upper_b))) [
      | inl b ↦ record { first = either IsWord letter lower_b upper_b b refl refl; digit = binary_word d (sym (cond-false _ _ _ not_x ∙ cond-false _ _ _ not_o ∙ cond-true _ _ _ b) ∙ h) }
      | inr not_b ↦
          absurd (let e : is_digit_of letter d ≡ false = cond-false _ _ _ not_x ∙ cond-false _ _ _ not_o ∙ cond-false _ _ _ not_b in cc)
    ]
  ]
]

-- ---- numbers

behind_words : (s : List ℕ) → is_behind_zero s ≡ true → list_all continues_word s ≡ true
behind_words [] h = refl
behind_words (letter ∷ []) h = absurd cc
behind_words (letter ∷ d ∷ digits) h =
    all_both continues_word letter (d ∷ digits) (based letter d (all_first (is_digit_of letter) d digits h).0).first
    (all_weaker (is_digit_of letter) continues_word (λ e t. (based letter e t).digit) (d ∷ digits) h)

pub number_words : (s : List ℕ) → is_number s ≡ true → list_all continues_word s ≡ true
number_words [] h = absurd cc
number_words (a ∷ others) h = elim (cases_Bool (a == digit_zero)) [
  | inl y ↦ all_both continues_word a others (subst IsWord (sym (eqb-true a digit_zero y)) refl) (behind_words others (sym (cond-true _ _ _ y) ∙ h))
  | inr n ↦ all_weaker is_ascii_digit continues_word digit_word (a ∷ others) (sym (cond-false _ _ _ n) ∙ h)
]

pub number_digit : (a : ℕ) (others : List ℕ) → is_number (a ∷ others) ≡ true → is_ascii_digit a ≡ true
number_digit a others h = elim (cases_Bool (a == digit_zero)) [
  | inl y ↦ subst (λ (x : ℕ). is_ascii_digit x ≡ true) (sym (eqb-true a digit_zero y)) refl
  | inr n ↦ (all_first is_ascii_digit a others (sym (cond-false _ _ _ n) ∙ h)).0
]

-- ---- the test

pub number_none : (s : List ℕ) → length s ≡ 0 → is_number s ≡ false
number_none [] e = refl
number_none (a ∷ s) e = absurd (omega arith)

pub number_decimal : (s : List ℕ) → 0 < length s → get_or s 0 0 ≢ digit_zero → is_number s ≡ list_all is_ascii_digit s
number_decimal [] lt e = absurd (omega arith)
number_decimal (a ∷ others) lt e = cond-false (a == digit_zero) _ _ (ne_eqb a digit_zero e)

pub number_short : (s : List ℕ) → length s < 3 → 0 < length s → get_or s 0 0 ≡ digit_zero → is_number s ≡ (length s == 1)
number_short [] lt some e = absurd (omega arith)
number_short (a ∷ []) lt some e = cond-true (a == digit_zero) _ _ (eq-eqb a digit_zero e)
number_short (a ∷ b ∷ []) lt some e = cond-true (a == digit_zero) _ _ (eq-eqb a digit_zero e)
number_short (a ∷ b ∷ c ∷ more) lt some e = absurd (omega arith)

pub number_based : (s : List ℕ) → 3 ≤ length s → get_or s 0 0 ≡ digit_zero → is_number s ≡ list_all (is_digit_of (get_or s 1 0)) (take (length s - 2) (drop 2 s))
number_based [] le e = absurd (omega arith)
number_based (a ∷ []) le e = absurd (omega arith)
number_based (a ∷ b ∷ []) le e = absurd (omega arith)
number_based (a ∷ b ∷ c ∷ more) le e =
    let q : length (a ∷ b ∷ c ∷ more) - 2 ≡ length (c ∷ more) = omega arith in
    cond-true (a == digit_zero) _ _ (eq-eqb a digit_zero e)
    ∙ ap (list_all (is_digit_of b)) (sym (ap (λ (n : ℕ). take n (c ∷ more)) q ∙ take_all (c ∷ more)))

pub ruleset number_cases = (number_none, number_short, number_based, number_decimal)
