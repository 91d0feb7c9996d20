-- Marks of the numbers that were met.
use Rattle.std.proofs.Common.{◌≡◌, ◌≢◌, ℕ, ◌<◌, Bool, true, false, List, [], ◌∷◌, ◌++◌, length, get_or, set, nat_eq, refl, sym, ap}
use Rattle.std.proofs.Common.{subst, ◌∙◌, arith, inl, inr}
use Rattle.std.specs.Prelude.{◌||◌, if◌then◌else◌}
use Rattle.std.specs.List.{list_any}
use Rattle.std.proofs.lemmas.Bool.{cases_eq, eqb-true, eq-eqb, false_from_ne_true}
use Rattle.std.proofs.lemmas.List.{get_or-set_same, get_or-set_other, length-set}
use Rattle.std.proofs.lemmas.List.Folds.{list_any-append}
use Rattle.support.specs.Sets.{insert_key}
use Rattle.build.specs.Marks.{AreMarks}

or_false : (b : Bool) → (b || false) ≡ b
or_false true = refl
or_false false = refl

either_any : (b : Bool) (ks : List ℕ) (x k : ℕ) → list_any (nat_eq x) ks ≡ b → k ≢ x → list_any (nat_eq k) (if b then ks else ks ++ x ∷ []) ≡ list_any (nat_eq k) ks
either_any true ks x k e ne = refl
either_any false ks x k e ne =
    list_any-append (nat_eq k) ks (x ∷ [])
    ∙ ap (λ b. list_any (nat_eq k) ks || (b || false)) (false_from_ne_true (nat_eq k x) (λ h. ne (eqb-true k x h)))
    ∙ or_false (list_any (nat_eq k) ks)

-- another number is met or not as before
any_other : (ks : List ℕ) (x k : ℕ) → k ≢ x → list_any (nat_eq k) (insert_key nat_eq ks x) ≡ list_any (nat_eq k) ks
any_other ks x k ne = either_any (list_any (nat_eq x) ks) ks x k refl ne

or_true : (b : Bool) → (b || true) ≡ true
or_true true = refl
or_true false = refl

either_same : (b : Bool) (ks : List ℕ) (x : ℕ) → list_any (nat_eq x) ks ≡ b → list_any (nat_eq x) (if b then ks else ks ++ x ∷ []) ≡ true
either_same true ks x e = e
either_same false ks x e =
    list_any-append (nat_eq x) ks (x ∷ [])
    ∙ ap (λ b. list_any (nat_eq x) ks || (b || false)) (eq-eqb x x refl)
    ∙ or_true (list_any (nat_eq x) ks)

-- the number itself is met
pub any_same : (ks : List ℕ) (x : ℕ) → list_any (nat_eq x) (insert_key nat_eq ks x) ≡ true
any_same ks x = either_same (list_any (nat_eq x) ks) ks x refl

-- a number is met that has a mark
pub marked : (marks : List Bool) (ks : List ℕ) (x : ℕ) → AreMarks marks ks → x < length marks → AreMarks (set marks x true) (insert_key nat_eq ks x)
marked marks ks x are lt k below =
    elim (cases_eq k x) [
      | inl same ↦
          subst (λ n. get_or (set marks x true) n false ≡ list_any (nat_eq n) (insert_key nat_eq ks x)) (sym same)
          (get_or-set_same marks x true false lt ∙ sym (any_same ks x))
      | inr ne ↦
          let within : k < length marks = omega (arith, length-set marks x true, below) in
          get_or-set_other marks x k true false ne ∙ are k within ∙ sym (any_other ks x k ne)
    ]

-- ---- one number more

either_more : (b : Bool) (ks : List ℕ) (x k : ℕ) → list_any (nat_eq x) ks ≡ b → list_any (nat_eq k) (if b then ks else ks ++ x ∷ []) ≡ list_any (nat_eq k) (ks ++ x ∷ [])
either_more false ks x k e = refl
either_more true ks x k e =
    elim (cases_eq k x) [
      | inl same ↦
          let met : list_any (nat_eq k) ks ≡ true = ap (λ n. list_any (nat_eq n) ks) same ∙ e in
          met ∙ sym (list_any-append (nat_eq k) ks (x ∷ []) ∙ ap (λ b. b || (nat_eq k x || false)) met)
      | inr ne ↦
          sym (list_any-append (nat_eq k) ks (x ∷ [])
          ∙ ap (λ b. list_any (nat_eq k) ks || (b || false)) (false_from_ne_true (nat_eq k x) (λ h. ne (eqb-true k x h)))
          ∙ or_false (list_any (nat_eq k) ks))
    ]

-- it stands behind the others, once or twice
pub marks_more : (marks : List Bool) (ks : List ℕ) (x : ℕ) → AreMarks marks (insert_key nat_eq ks x) → AreMarks marks (ks ++ x ∷ [])
marks_more marks ks x are k lt = are k lt ∙ either_more (list_any (nat_eq x) ks) ks x k refl

pub in_more : (ks : List ℕ) (n x : ℕ) → list_any (nat_eq x) ks ≡ true → list_any (nat_eq x) (insert_key nat_eq ks n) ≡ true
in_more ks n x h =
    elim (cases_eq x n) [
      | inl same ↦ subst (λ k. list_any (nat_eq k) (insert_key nat_eq ks n) ≡ true) (sym same) (any_same ks n)
      | inr ne ↦ any_other ks n x ne ∙ h
    ]

pub more_cases : {P : Type 0} (ks : List ℕ) (n x : ℕ) → list_any (nat_eq x) (insert_key nat_eq ks n) ≡ true → (x ≡ n → P) → (list_any (nat_eq x) ks ≡ true → P) → P
more_cases ks n x h f g =
    elim (cases_eq x n) [
      | inl same ↦ f same
      | inr ne ↦ g (sym (any_other ks n x ne) ∙ h)
    ]
