-- An escape that is read is one, and there is no other there.
use Rattle.std.proofs.Common.{◌≡◌, ℕ, zero, suc, ◌+◌, ◌*◌, ◌≤◌, ◌<◌, Bool, true, false, List, [], ◌∷◌, ◌++◌, length, take, drop, refl, sym}
use Rattle.std.proofs.Common.{ap, subst, ◌∙◌, inl, inr, arith, Option, Some, None}
use Rattle.std.specs.Prelude.{not, fold}
use Rattle.std.specs.Char.{is_digit, digit_value}
use Rattle.std.specs.List.{list_all}
use Rattle.std.proofs.lemmas.Bool.Decides.{nat_tests}
use Rattle.std.proofs.lemmas.List.{take-append-drop, length-take-le}
use Rattle.std.proofs.lemmas.Bool.{cases_Bool, cond-true, cond-false}
use Rattle.syntax.specs.lexer.Escapes.{control, digit_count, hexadecimal, octal, escape_of_size, named_escape, escape_at, is_character, names_none, is_bad_escape}
use Rattle.syntax.specs.lexer.Escapes.{NamesCharacters, begins_octal, IsEscape, alone, sixteen, eight}
use Rattle.syntax.specs.lexer.Numbers.{is_octal_digit}
use Rattle.syntax.proofs.Runs.{all_both, all_first}
use Rattle.syntax.proofs.Texts.{hex_ends, sized_some}

-- ---- digits

abbrev more_digits : ℕ → ℕ → List ℕ → ℕ
more_digits base value digits = fold (λ v d. base * v + digit_value d) value digits

abbrev is_hex : ℕ → Bool
is_hex d = is_digit d 16

hex_sound : (n value : ℕ) (s : List ℕ) (code : ℕ) → hexadecimal n value s ≡ Some code → (list_all is_hex (take n s) ≡ true) × (code ≡ more_digits 16 value (take n s))
hex_sound zero value s code e = (refl, cc)
hex_sound (suc n) value [] code e = absurd cc
hex_sound (suc n) value (b ∷ s) code e = elim (cases_Bool (is_digit b 16)) [
  | inl y ↦ let ih = hex_sound n (16 * value + digit_value b) s code (sym (cond-true (is_digit b 16) _ _ y) ∙ e) in (all_both is_hex b (take n s) y ih.0, ih.1)
  | inr x ↦ absurd (let w : hexadecimal (suc n) value (b ∷ s) ≡ None = cond-false (is_digit b 16) _ _ x in cc)
]

hex_complete : (value : ℕ) (digits rest : List ℕ) → list_all is_hex digits ≡ true → hexadecimal (length digits) value (digits ++ rest) ≡ Some (more_digits 16 value digits)
hex_complete value [] rest h = refl
hex_complete value (b ∷ digits) rest h =
    let w = all_first is_hex b digits h in cond-true (is_digit b 16) _ _ w.0 ∙ hex_complete (16 * value + digit_value b) digits rest w.1

record Octal (n value size : ℕ) (s : List ℕ) : Type 0 where
  pub count : ℕ
  pub is : octal n value size s ≡ (more_digits 8 value (take count s), size + count)
  pub few : count ≤ n
  pub within : count ≤ length s
  pub all : list_all is_octal_digit (take count s) ≡ true
  pub ends : count < n → begins_octal (drop count s) ≡ false

pair : (a b : ℕ) {c d : ℕ} → a ≡ c → b ≡ d → ◌≡◌ {A = ℕ × ℕ} (a, b) (c, d)
pair a b e f = λ i. (e i, f i)

octal_sound : (n value size : ℕ) (s : List ℕ) → Octal n value size s
octal_sound zero value size s = record { count = 0; is = pair value size refl (omega arith); few = omega arith; within = omega arith; all = refl; ends = λ lt. absurd (omega arith) }
octal_sound (suc n) value size [] = record { count = 0; is = pair value size refl (omega arith); few = omega arith; within = omega arith; all = refl; ends = λ lt. refl }
octal_sound (suc n) value size (b ∷ s) = elim (cases_Bool (is_octal_digit b)) [
  | inl y ↦
      let ih = octal_sound n (8 * value + digit_value b) (size + 1) s in
      record {
        count = suc ih.count;
        is = cond-true (is_octal_digit b) _ _ y ∙ ih.is ∙ pair _ (size + 1 + ih.count) refl (omega arith);
        few = omega (arith, ih.few);
        within = omega (arith, ih.within);
        all = all_both is_octal_digit b (take ih.count s) y ih.all;
        ends = λ lt. ih.ends (omega arith);
      }
  | inr x ↦ record { count = 0; is = cond-false (is_octal_digit b) _ _ x ∙ pair value size refl (omega arith); few = omega arith; within = omega arith; all = refl; ends = λ lt. x }
]

octal_complete : (n value size : ℕ) (digits rest : List ℕ) → length digits ≤ n → list_all is_octal_digit digits ≡ true → (length digits < n → begins_octal rest ≡ false)
    → octal n value size (digits ++ rest) ≡ (more_digits 8 value digits, size + length digits)
octal_complete zero value size [] rest le h e = pair value size refl (omega arith)
octal_complete zero value size (b ∷ digits) rest le h e = absurd (omega arith)
octal_complete (suc n) value size [] [] le h e = pair value size refl (omega arith)
octal_complete (suc n) value size [] (b ∷ rest) le h e =
    cond-false (is_octal_digit b) _ _ (e (omega arith)) ∙ pair value size refl (omega arith)
octal_complete (suc n) value size (b ∷ digits) rest le h e =
    let w = all_first is_octal_digit b digits h in
    cond-true (is_octal_digit b) _ _ w.0
    ∙ octal_complete n (8 * value + digit_value b) (size + 1) digits rest (omega arith) w.1 (λ lt. e (omega arith))
    ∙ pair _ (size + 1 + length digits) refl (omega arith)

-- ---- escapes

control_octal : (b code : ℕ) → control b ≡ Some code → (is_octal_digit b ≡ false) × (digit_count b ≡ None)
control_octal b code e = (grind (arith, nat_tests), grind (arith, nat_tests))

count_octal : (b n : ℕ) → digit_count b ≡ Some n → is_octal_digit b ≡ false
count_octal b n e = grind (arith, nat_tests)

named_sound : (b : ℕ) (o : Option ℕ) (s : List ℕ) (code size : ℕ) → digit_count b ≡ o → named_escape b o s ≡ Some (code, size) → IsEscape code (take size (b ∷ s)) (drop size (b ∷ s))
named_sound b None s code size d e =
    let w = sized_some 1 (control b) code size e in
    subst (λ (m : ℕ). IsEscape code (take m (b ∷ s)) (drop m (b ∷ s))) w.1 (alone b code s w.0)
named_sound b (Some n) s code size d e =
    let w = sized_some (n + 1) (hexadecimal n 0 s) code size e in
    let h = hex_sound n 0 s code w.0 in
    let len : length (take n s) ≡ n = length-take-le n s (within n s code w.0) in
    subst (λ (m : ℕ). IsEscape code (take m (b ∷ s)) (drop m (b ∷ s))) (let q : suc n ≡ size = omega (arith, w.1) in q)
    (subst (λ (c : ℕ). IsEscape c (b ∷ take n s) (drop n s)) (sym h.1) (sixteen b (take n s) (drop n s) (d ∙ ap (λ (m : ℕ). Some m) (sym len)) h.0))
  where
    within : (n : ℕ) (s : List ℕ) (code : ℕ) → hexadecimal n 0 s ≡ Some code → n ≤ length s
    within n s code e = (hex_ends n 0 s code e).within

pub escape_sound : (s : List ℕ) (code size : ℕ) → escape_at s ≡ Some (code, size) → IsEscape code (take size s) (drop size s)
unfolding escape_at
escape_sound [] code size e = absurd cc
escape_sound (b ∷ s) code size e = elim (cases_Bool (is_octal_digit b)) [
  | inl y ↦
      let w = octal_sound 3 0 0 (b ∷ s) in
      let f : ◌≡◌ {A = Option (ℕ × ℕ)} (Some (octal 3 0 0 (b ∷ s))) (Some (code, size)) = sym (cond-true (is_octal_digit b) _ _ y) ∙ e in
      let p : octal 3 0 0 (b ∷ s) ≡ (code, size) = cc in
      let both = sym p ∙ w.is in
      let size_is : size ≡ w.count = ap (λ (r : ℕ × ℕ). r.1) both ∙ omega arith in
      let code_is : code ≡ more_digits 8 0 (take w.count (b ∷ s)) = ap (λ (r : ℕ × ℕ). r.0) both in
      let len : length (take w.count (b ∷ s)) ≡ w.count = length-take-le w.count (b ∷ s) w.within in
      let some : 0 < w.count = first b s w.count y w.ends in
      subst (λ (m : ℕ). IsEscape code (take m (b ∷ s)) (drop m (b ∷ s))) (sym size_is) (subst (λ (c : ℕ). IsEscape c (take w.count (b ∷ s)) (drop w.count (b ∷ s))) (sym code_is)
      (eight (take w.count (b ∷ s)) (drop w.count (b ∷ s)) (omega (arith, len, some)) (omega (arith, len, w.few)) w.all (λ lt. w.ends (omega (arith, len, lt)))))
  | inr x ↦ named_sound b (digit_count b) s code size refl (sym (cond-false (is_octal_digit b) _ _ x) ∙ e)
]
  where
    first : (b : ℕ) (s : List ℕ) (n : ℕ) → is_octal_digit b ≡ true → (n < 3 → begins_octal (drop n (b ∷ s)) ≡ false) → 0 < n
    first b s zero y ends = absurd (let x : is_octal_digit b ≡ false = ends (omega arith) in cc)
    first b s (suc n) y ends = omega arith

eight_complete : (digits rest : List ℕ) → 0 < length digits → length digits ≤ 3 → list_all is_octal_digit digits ≡ true → (length digits < 3 → begins_octal rest ≡ false)
    → escape_at (digits ++ rest) ≡ Some (more_digits 8 0 digits, length digits)
unfolding escape_at
eight_complete [] rest some few h ends = absurd (omega arith)
eight_complete (b ∷ digits) rest some few h ends =
    cond-true (is_octal_digit b) _ _ (all_first is_octal_digit b digits h).0
    ∙ ap (λ (o : ℕ × ℕ). Some o) (octal_complete 3 0 0 (b ∷ digits) rest few h ends ∙ pair _ (0 + length (b ∷ digits)) refl (omega arith))

pub escape_complete : (code : ℕ) (written rest : List ℕ) → IsEscape code written rest → escape_at (written ++ rest) ≡ Some (code, length written)
unfolding escape_at
escape_complete _ _ _ (alone b code rest e) =
    let w = control_octal b code e in cond-false (is_octal_digit b) _ _ w.0 ∙ ap (λ (o : Option ℕ). named_escape b o rest) w.1 ∙ ap (escape_of_size 1) e
escape_complete _ _ _ (sixteen b digits rest e h) =
    cond-false (is_octal_digit b) _ _ (count_octal b (length digits) e) ∙ ap (λ (o : Option ℕ). named_escape b o (digits ++ rest)) e
    ∙ ap (escape_of_size (length digits + 1)) (hex_complete 0 digits rest h)
    ∙ ap (λ (n : ℕ). Some (more_digits 16 0 digits, n)) (let q : length digits + 1 ≡ length (b ∷ digits) = omega arith in q)
escape_complete _ _ _ (eight digits rest some few h ends) = eight_complete digits rest some few h ends

-- ---- bad escapes

pub good_names : (s : List ℕ) → is_bad_escape s ≡ false → NamesCharacters s
good_names s good code written rest parts e =
    let found : escape_at s ≡ Some (code, length written) = ap escape_at parts ∙ escape_complete code written rest e in
    not_not (is_character code) (sym (ap names_none found) ∙ good)
  where
    not_not : (t : Bool) → not t ≡ false → t ≡ true
    not_not true e = refl
    not_not false e = absurd cc

pub names_good : (s : List ℕ) → NamesCharacters s → is_bad_escape s ≡ false
names_good s each = go (escape_at s) refl
  where
    go : (o : Option (ℕ × ℕ)) → escape_at s ≡ o → names_none o ≡ false
    go None e = refl
    go (Some (code, n)) e = ap not (each code (take n s) (drop n s) (sym (take-append-drop n s)) (escape_sound s code n e))
