-- One more level: what is a spelling or a front stays one, a token that is too deep is a front then,
-- and a reading that is not too deep stays the same.
use Rattle.std.proofs.Common.{◌≡◌, ℕ, zero, suc, Bool, true, false, List, [], ◌∷◌, length, Result, Ok, Err, refl, sym, ap, ◌∙◌, ◌⊎◌, inl}
use Rattle.std.proofs.Common.{inr}
use Rattle.syntax.specs.lexer.Lexeme.{Lexeme}
use Rattle.syntax.specs.declared.stop.ParseStop.{ParseStop}
use Rattle.syntax.specs.declared.stop.ParseStop.TheVariants.{TooDeep}
use Rattle.syntax.specs.Form.{Form, ◌or◌, many, Repeats}
use Rattle.syntax.specs.Form.{◌>>=◌ as ◌then◌}
use Rattle.syntax.specs.Reading.{Reader, ◌>>=◌, many_at, or_at}
use Rattle.syntax.proofs.Laws.{bind_at, bind_err, cases_bool}

-- the reading stops at a token that is too deep
abbrev pub TooDeepAt : {A : Type 0} → Result (A × List Lexeme) ParseStop → Type 0
TooDeepAt r = (left : ℕ) × (r ≡ Err (TooDeep left))

abbrev pub Opens : {A : Type 0} → Form A → List Lexeme → ℕ → Type 0
Opens G ts left = (rest : List Lexeme) × (left ≡ suc (length rest)) × G.front ts rest

pub record Raises {A : Type 0} (F G : Form A) (r s : Reader A) : Type 0 where
  pub spells : (a : A) (ts rest : List Lexeme) → F.spells a ts rest → G.spells a ts rest
  pub front : (ts more : List Lexeme) → F.front ts more → G.front ts more
  pub deep : (ts : List Lexeme) (left : ℕ) → r ts ≡ Err (TooDeep left) → Opens G ts left
  pub same : (ts : List Lexeme) → TooDeepAt (r ts) ⊎ (r ts ≡ s ts)

-- a reader that finds nothing too deep
pub raises-flat : {A : Type 0} (F : Form A) (r : Reader A) → ((ts : List Lexeme) (left : ℕ) → r ts ≡ Err (TooDeep left) → ⊥) → Raises F F r r
raises-flat F r flat = record { spells = λ a ts rest h. h; front = λ ts more h. h; deep = λ ts left e. absurd (flat ts left e); same = λ ts. inr refl }

module _ {A B : Type 0} (F F' : Form A) (G G' : A → Form B) (r r' : Reader A) (s s' : A → Reader B)
    (sound : (ts : List Lexeme) (a : A) (rest : List Lexeme) → r ts ≡ Ok (a, rest) → F.spells a ts rest)
    (f : Raises F F' r r') (g : (a : A) → Raises (G a) (G' a) (s a) (s' a)) where
  raises_deep : (ts : List Lexeme) (left : ℕ) → bind_at r s ts ≡ Err (TooDeep left) → Opens (F' then G') ts left
  raises_deep ts left e = elim (bind_err (r ts) (λ x. s x.0 x.1) (TooDeep left) e) [
    | inl e1 ↦ let h = f.deep ts left e1 in (h.0, h.1, inl h.2)
    | inr w ↦ let h = (g w.0.0).deep w.0.1 left w.2 in (h.0, h.1, inr (w.0.0, w.0.1, f.spells w.0.0 ts w.0.1 (sound ts w.0.0 w.0.1 w.1), h.2))
  ]

  raises_then : (x : Result (A × List Lexeme) ParseStop) → TooDeepAt (x >>= λ y. s y.0 y.1) ⊎ ((x >>= λ y. s y.0 y.1) ≡ (x >>= λ y. s' y.0 y.1))
  raises_then (Ok y) = (g y.0).same y.1
  raises_then (Err d) = inr refl

  raises_same : (ts : List Lexeme) → TooDeepAt (bind_at r s ts) ⊎ (bind_at r s ts ≡ bind_at r' s' ts)
  raises_same ts = elim (f.same ts) [
    | inl d ↦ inl (d.0, rw d.1 refl)
    | inr e ↦ elim (raises_then (r ts)) [
      | inl d ↦ inl d
      | inr e2 ↦ inr (e2 ∙ ap (λ (x : Result (A × List Lexeme) ParseStop). x >>= λ y. s' y.0 y.1) e)
    ]
  ]

  pub raises-bind : Raises (F then G) (F' then G') (bind_at r s) (bind_at r' s')
  raises-bind = record {
    spells = λ b ts rest h. (h.0, h.1, f.spells h.0 ts h.1 h.2, (g h.0).spells b h.1 rest h.3);
    front = λ ts more h. elim h [ inl p ↦ inl (f.front ts more p) | inr w ↦ inr (w.0, w.1, f.spells w.0 ts w.1 w.2, (g w.0).front w.1 more w.3) ];
    deep = raises_deep;
    same = raises_same;
  }

module _ {A : Type 0} (F F' G G' : Form A) (r r' s s' : Reader A) (first : List Lexeme → Bool) (f : Raises F F' r r') (g : Raises G G' s s') where
  first_yes : (r s : Reader A) (ts : List Lexeme) → first ts ≡ true → or_at first r s ts ≡ r ts
  unfolding or_at
  first_yes r s ts e = rw e

  first_no : (r s : Reader A) (ts : List Lexeme) → first ts ≡ false → or_at first r s ts ≡ s ts
  unfolding or_at
  first_no r s ts e = rw e

  pub raises-or : Raises (F or G) (F' or G') (or_at first r s) (or_at first r' s')
  raises-or = record {
    spells = λ a ts rest h. elim h [ inl p ↦ inl (f.spells a ts rest p) | inr q ↦ inr (g.spells a ts rest q) ];
    front = λ ts more h. elim h [ inl p ↦ inl (f.front ts more p) | inr q ↦ inr (g.front ts more q) ];
    deep = λ ts left e. elim (cases_bool (first ts)) [
      | inl t ↦ let h = f.deep ts left (sym (first_yes r s ts t) ∙ e) in (h.0, h.1, inl h.2)
      | inr t ↦ let h = g.deep ts left (sym (first_no r s ts t) ∙ e) in (h.0, h.1, inr h.2)
    ];
    same = λ ts. elim (cases_bool (first ts)) [
      | inl t ↦ elim (f.same ts) [ inl d ↦ inl (d.0, first_yes r s ts t ∙ d.1) | inr e ↦ inr (first_yes r s ts t ∙ e ∙ sym (first_yes r' s' ts t)) ]
      | inr t ↦ elim (g.same ts) [ inl d ↦ inl (d.0, first_no r s ts t ∙ d.1) | inr e ↦ inr (first_no r s ts t ∙ e ∙ sym (first_no r' s' ts t)) ]
    ];
  }

module _ {A : Type 0} (F F' : Form A) (r r' : Reader A) (next : List Lexeme → Bool)
    (sound : (ts : List Lexeme) (a : A) (rest : List Lexeme) → r ts ≡ Ok (a, rest) → F.spells a ts rest)
    (f : Raises F F' r r') where
  raises_repeats : (xs : List A) (ts rest : List Lexeme) → Repeats F xs ts rest → Repeats F' xs ts rest
  raises_repeats [] ts rest h = h
  raises_repeats (x ∷ xs) ts rest h = (h.0, f.spells x ts h.0 h.1, raises_repeats xs h.0 rest h.2)

  more_yes : (r : Reader A) (k : ℕ) (ts : List Lexeme) → next ts ≡ true → many_at next r (suc k) ts ≡ (r ts >>= λ x. many_at next r k x.1 >>= λ y. Ok (x.0 ∷ y.0, y.1))
  more_yes r k ts e = rw e

  more_no : (r : Reader A) (k : ℕ) (ts : List Lexeme) → next ts ≡ false → many_at next r (suc k) ts ≡ Ok ([], ts)
  more_no r k ts e = rw e

  raises_many_deep : (k : ℕ) (ts : List Lexeme) (left : ℕ) → many_at next r k ts ≡ Err (TooDeep left) → Opens (many F') ts left
  raises_many_deep zero ts left e = absurd cc
  raises_many_deep (suc k) ts left e = elim (cases_bool (next ts)) [
    | inl t ↦ elim (bind_err (r ts) (λ x. many_at next r k x.1 >>= λ y. Ok (x.0 ∷ y.0, y.1)) (TooDeep left) (sym (more_yes r k ts t) ∙ e)) [
      | inl e1 ↦ let h = f.deep ts left e1 in (h.0, h.1, ([], ts, refl, h.2))
      | inr w ↦ elim (bind_err (many_at next r k w.0.1) (λ y. Ok (w.0.0 ∷ y.0, y.1)) (TooDeep left) w.2) [
        | inl e3 ↦ let h = raises_many_deep k w.0.1 left e3 in (h.0, h.1, (w.0.0 ∷ h.2.0, h.2.1, (w.0.1, f.spells w.0.0 ts w.0.1 (sound ts w.0.0 w.0.1 w.1), h.2.2), h.2.3))
        | inr v ↦ let v2 = v.2 in absurd cc
      ]
    ]
    | inr n ↦ let stop = more_no r k ts n in absurd cc
  ]

  abbrev then_many : Reader A → ℕ → Result (A × List Lexeme) ParseStop → Result (List A × List Lexeme) ParseStop
  then_many q k x = x >>= λ y. many_at next q k y.1 >>= λ z. Ok (y.0 ∷ z.0, z.1)

  many_after : (k : ℕ) → ((ts : List Lexeme) → TooDeepAt (many_at next r k ts) ⊎ (many_at next r k ts ≡ many_at next r' k ts)) → (x : Result (A × List Lexeme) ParseStop)
      → TooDeepAt (then_many r k x) ⊎ (then_many r k x ≡ then_many r' k x)
  many_after k ih (Ok y) = elim (ih y.1) [
    | inl d ↦ inl (d.0, rw d.1 refl)
    | inr e ↦ inr (ap (λ (x : Result (List A × List Lexeme) ParseStop). x >>= λ z. Ok (y.0 ∷ z.0, z.1)) e)
  ]
  many_after k ih (Err d) = inr refl

  raises_many_same : (k : ℕ) (ts : List Lexeme) → TooDeepAt (many_at next r k ts) ⊎ (many_at next r k ts ≡ many_at next r' k ts)
  raises_many_same zero ts = inr refl
  raises_many_same (suc k) ts = elim (cases_bool (next ts)) [
    | inl t ↦ elim (f.same ts) [
      | inl d ↦ inl (d.0, more_yes r k ts t ∙ rw d.1 refl)
      | inr e ↦ elim (many_after k (raises_many_same k) (r ts)) [
        | inl d ↦ inl (d.0, more_yes r k ts t ∙ d.1)
        | inr e2 ↦ inr (more_yes r k ts t ∙ e2 ∙ ap (then_many r' k) e ∙ sym (more_yes r' k ts t))
      ]
    ]
    | inr n ↦ inr (more_no r k ts n ∙ sym (more_no r' k ts n))
  ]

  pub raises-many : Raises (many F) (many F') (λ ts. many_at next r (length ts) ts) (λ ts. many_at next r' (length ts) ts)
  raises-many = record {
    spells = raises_repeats;
    front = λ ts more h. (h.0, h.1, raises_repeats h.0 ts h.1 h.2, f.front h.1 more h.3);
    deep = λ ts. raises_many_deep (length ts) ts;
    same = λ ts. raises_many_same (length ts) ts;
  }
