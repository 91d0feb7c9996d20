-- A list with commas, with one more level.
use Rattle.std.proofs.Common.{◌≡◌, ℕ, ◌≤◌, zero, suc, ◌+◌, Bool, true, false, List, [], ◌∷◌, length, Result, Ok, Err, refl, sym, ap, subst}
use Rattle.std.proofs.Common.{◌∙◌, ◌⊎◌, inl, inr, arith, Some, None}
use Rattle.syntax.specs.lexer.Lexeme.{Lexeme}
use Rattle.syntax.specs.declared.lexer.token.TokenKind.{TokenKind}
use Rattle.syntax.specs.declared.lexer.token.TokenKind.TheVariants as Kinds
use Rattle.syntax.specs.declared.stop.ParseStop.{ParseStop}
use Rattle.syntax.specs.declared.stop.ParseStop.TheVariants.{TooDeep}
use Rattle.syntax.specs.Form.{Form, token, give, optional, comma_then, Further, further, some_listed_by, listed_by, state_after}
use Rattle.syntax.specs.Form.{◌>>=◌ as ◌then◌}
use Rattle.syntax.specs.lexer.Kinds.{is}
use Rattle.syntax.specs.Reading.{Reader, ◌>>=◌, begins, token_at, tail_at, items_by, listed_at}
use Rattle.syntax.proofs.Ends.{Ends, IsEnd, end_then, end_within, le_or_more, ends-bind, ends-give, ends-or, ends-token}
use Rattle.syntax.proofs.Laws.{IsForm, IsForm-bind, IsForm-give, IsForm-optional, IsForm-or, IsForm-token, bind_err, cases_bool}
use Rattle.syntax.proofs.Laws.{reads-token}
use Rattle.syntax.proofs.Line.{Line}
use Rattle.syntax.proofs.Listed.{reads-listed}
use Rattle.syntax.proofs.Numbers.{is-true}
use Rattle.syntax.proofs.Raises.{Raises, TooDeepAt}
use Rattle.syntax.proofs.Starts.{Starts, Takes, head_is, takes-bind, takes-give, takes-less, takes-or, takes-token}

comma_yes : (ts : List Lexeme) → begins Kinds.Comma ts ≡ true → (c : Lexeme) × (rest : List Lexeme) × (ts ≡ c ∷ rest) × (c.kind ≡ Kinds.Comma) × (token_at Kinds.Comma ts ≡ Ok (c, rest))
comma_yes [] b = absurd cc
comma_yes (c ∷ rest) b = (c, rest, refl, is-true c.kind Kinds.Comma b, (reads-token Kinds.Comma).complete c (c ∷ rest) rest (refl, is-true c.kind Kinds.Comma b) tt)

module _ {S A : Type 0} (F F' : S → Form A) (r r' : S → Reader A) (step : S → A → S) (stop : List Lexeme → Bool)
    (sound : (s : S) (ts : List Lexeme) (a : A) (rest : List Lexeme) → r s ts ≡ Ok (a, rest) → (F s).spells a ts rest) (f : (s : S) → Raises (F s) (F' s) (r s) (r' s)) where
  up_further : (s : S) (xs : List A) (ts rest : List Lexeme) → Further F step s xs ts rest → Further F' step s xs ts rest
  up_further s [] ts rest h = h
  up_further s (x ∷ xs) ts rest (m, (c, m1, hc, p), q) = (m, (c, m1, hc, (f s).spells x m1 m p), up_further (step s x) xs m rest q)

  up_comma : (s : S) (ts more : List Lexeme) → (comma_then (F s)).front ts more → (comma_then (F' s)).front ts more
  up_comma s ts more (inl h) = inl h
  up_comma s ts more (inr (c, m, hc, p)) = inr (c, m, hc, (f s).front m more p)

  same_after : (s : S) (xs : List A) → state_after F step s xs ≡ state_after F' step s xs
  same_after s [] = refl
  same_after s (x ∷ xs) = same_after (step s x) xs

  up_many : (s : S) (ts more : List Lexeme) → (further F step s).front ts more → (further F' step s).front ts more
  up_many s ts more (xs, mid, q, h) = (xs, mid, up_further s xs ts mid q, subst (λ (u : S). (comma_then (F' u)).front mid more) (same_after s xs) (up_comma (state_after F step s xs) mid more h))

  up_spells : (s : S) (xs : List A) (ts rest : List Lexeme) → (listed_by F step s).spells xs ts rest → (listed_by F' step s).spells xs ts rest
  up_spells s xs ts rest (inl (a, m1, p, (others, m2, q, h))) = inl (a, m1, (f s).spells a ts m1 p, (others, m2, up_further (step s a) others m1 m2 q, h))
  up_spells s xs ts rest (inr h) = inr h

  up_front : (s : S) (ts more : List Lexeme) → (listed_by F step s).front ts more → (listed_by F' step s).front ts more
  up_front s ts more (inl (inl h)) = inl (inl ((f s).front ts more h))
  up_front s ts more (inl (inr (a, m1, p, inl h))) = inl (inr (a, m1, (f s).spells a ts m1 p, inl (up_many (step s a) m1 more h)))
  up_front s ts more (inl (inr (a, m1, p, inr (xs, mid, q, h)))) = inl (inr (a, m1, (f s).spells a ts m1 p, inr (xs, mid, up_further (step s a) xs m1 mid q, h)))
  up_front s ts more (inr h) = inr h

  -- ---- the reader, case by case

  abbrev At : (S → Reader A) → ℕ → S → Reader (List A)
  At q k s = items_by stop q step k s

  abbrev items_then : (S → Reader A) → ℕ → S → Result (A × List Lexeme) ParseStop → Result (List A × List Lexeme) ParseStop
  items_then q k s x = x >>= λ a. tail_at (At q k (step s a.0)) a.1 >>= λ y. Ok (a.0 ∷ y.0, y.1)

  tail_yes : (items : Reader (List A)) (ts : List Lexeme) (c : Lexeme) (rest : List Lexeme) → begins Kinds.Comma ts ≡ true → token_at Kinds.Comma ts ≡ Ok (c, rest) → tail_at items ts ≡ items rest
  unfolding tail_at
  tail_yes items ts c rest b e = rw (b, e) refl

  tail_no : (items : Reader (List A)) (ts : List Lexeme) → begins Kinds.Comma ts ≡ false → tail_at items ts ≡ Ok ([], ts)
  unfolding tail_at
  tail_no items ts b = rw b refl

  items_stop : (q : S → Reader A) (k : ℕ) (s : S) (ts : List Lexeme) → stop ts ≡ true → At q k s ts ≡ Ok ([], ts)
  unfolding items_by
  items_stop q zero s ts e = refl
  items_stop q (suc k) s ts e = rw e refl

  items_go : (q : S → Reader A) (k : ℕ) (s : S) (ts : List Lexeme) → stop ts ≡ false → At q (suc k) s ts ≡ items_then q k s (q s ts)
  unfolding items_by
  items_go q k s ts e = rw e refl

  items_zero : (q : S → Reader A) (s : S) (ts : List Lexeme) → At q 0 s ts ≡ Ok ([], ts)
  unfolding items_by
  items_zero q s ts = refl

  -- ---- a token that is too deep

  abbrev DeepFront : S → List Lexeme → List Lexeme → Type 0
  DeepFront s ts rest = (F' s).front ts rest ⊎ ((a : A) × (m : List Lexeme) × (F' s).spells a ts m × (further F' step (step s a)).front m rest)

  abbrev DeepAt : (List Lexeme → List Lexeme → Type 0) → List Lexeme → ℕ → Type 0
  DeepAt Front ts left = (rest : List Lexeme) × (left ≡ suc (length rest)) × Front ts rest

  after_comma : (s : S) (ts : List Lexeme) (c : Lexeme) (m rest : List Lexeme) → ts ≡ c ∷ m → c.kind ≡ Kinds.Comma → DeepFront s m rest → (further F' step s).front ts rest
  after_comma s ts c m rest e kc (inl h) = ([], ts, refl, inr (c, m, (e, kc), h))
  after_comma s ts c m rest e kc (inr (a, m1, p, (xs, mid, q, h))) = (a ∷ xs, mid, (m1, (c, m, (e, kc), p), q), h)

  tail_deep : (k : ℕ) (s : S) → ((ts : List Lexeme) (left : ℕ) → At r k s ts ≡ Err (TooDeep left) → DeepAt (DeepFront s) ts left)
      → (ts : List Lexeme) (left : ℕ) → tail_at (At r k s) ts ≡ Err (TooDeep left) → DeepAt (further F' step s).front ts left
  tail_deep k s ih ts left e = elim (cases_bool (begins Kinds.Comma ts)) [
    | inl b ↦ let w = comma_yes ts b in let h = ih w.1 left (sym (tail_yes (At r k s) ts w.0 w.1 b w.4) ∙ e) in (h.0, h.1, after_comma s ts w.0 w.1 h.0 w.2 w.3 h.2)
    | inr b ↦ let x = tail_no (At r k s) ts b in absurd cc
  ]

  items_deep : (k : ℕ) (s : S) (ts : List Lexeme) (left : ℕ) → At r k s ts ≡ Err (TooDeep left) → DeepAt (DeepFront s) ts left
  items_deep zero s ts left e = let x = items_zero r s ts in absurd cc
  items_deep (suc k) s ts left e = elim (cases_bool (stop ts)) [
    | inl b ↦ let x = items_stop r (suc k) s ts b in absurd cc
    | inr b ↦ elim (bind_err (r s ts) (λ a. tail_at (At r k (step s a.0)) a.1 >>= λ y. Ok (a.0 ∷ y.0, y.1)) (TooDeep left) (sym (items_go r k s ts b) ∙ e)) [
      | inl e1 ↦ let h = (f s).deep ts left e1 in (h.0, h.1, inl h.2)
      | inr w ↦ elim (bind_err (tail_at (At r k (step s w.0.0)) w.0.1) (λ y. Ok (w.0.0 ∷ y.0, y.1)) (TooDeep left) w.2) [
        | inl e3 ↦ let h = tail_deep k (step s w.0.0) (items_deep k (step s w.0.0)) w.0.1 left e3 in (h.0, h.1, inr (w.0.0, w.0.1, (f s).spells w.0.0 ts w.0.1 (sound s ts w.0.0 w.0.1 w.1), h.2))
        | inr v ↦ let v2 = v.2 in absurd cc
      ]
    ]
  ]

  listed_deep : (s : S) (ts rest : List Lexeme) → DeepFront s ts rest → (listed_by F' step s).front ts rest
  listed_deep s ts rest (inl h) = inl (inl h)
  listed_deep s ts rest (inr (a, m, p, h)) = inl (inr (a, m, p, inl h))

  -- ---- a reading that is not too deep

  tail_same : (k : ℕ) (s : S) → ((ts : List Lexeme) → TooDeepAt (At r k s ts) ⊎ (At r k s ts ≡ At r' k s ts))
      → (ts : List Lexeme) → TooDeepAt (tail_at (At r k s) ts) ⊎ (tail_at (At r k s) ts ≡ tail_at (At r' k s) ts)
  tail_same k s ih ts = elim (cases_bool (begins Kinds.Comma ts)) [
    | inl b ↦
        let w = comma_yes ts b in
        let here = tail_yes (At r k s) ts w.0 w.1 b w.4 in
        elim (ih w.1) [ inl d ↦ inl (d.0, here ∙ d.1) | inr e ↦ inr (here ∙ e ∙ sym (tail_yes (At r' k s) ts w.0 w.1 b w.4)) ]
    | inr b ↦ inr (tail_no (At r k s) ts b ∙ sym (tail_no (At r' k s) ts b))
  ]

  after_same : (k : ℕ) (s : S) → ((s : S) (ts : List Lexeme) → TooDeepAt (At r k s ts) ⊎ (At r k s ts ≡ At r' k s ts)) → (x : Result (A × List Lexeme) ParseStop)
      → TooDeepAt (items_then r k s x) ⊎ (items_then r k s x ≡ items_then r' k s x)
  after_same k s ih (Ok y) = elim (tail_same k (step s y.0) (ih (step s y.0)) y.1) [
    | inl d ↦ inl (d.0, rw d.1 refl)
    | inr e ↦ inr (ap (λ (x : Result (List A × List Lexeme) ParseStop). x >>= λ z. Ok (y.0 ∷ z.0, z.1)) e)
  ]
  after_same k s ih (Err d) = inr refl

  items_same : (k : ℕ) (s : S) (ts : List Lexeme) → TooDeepAt (At r k s ts) ⊎ (At r k s ts ≡ At r' k s ts)
  items_same zero s ts = inr (items_zero r s ts ∙ sym (items_zero r' s ts))
  items_same (suc k) s ts = elim (cases_bool (stop ts)) [
    | inl b ↦ inr (items_stop r (suc k) s ts b ∙ sym (items_stop r' (suc k) s ts b))
    | inr b ↦ elim ((f s).same ts) [
      | inl d ↦ inl (d.0, items_go r k s ts b ∙ rw d.1 refl)
      | inr e ↦ elim (after_same k s (items_same k) (r s ts)) [
        | inl d ↦ inl (d.0, items_go r k s ts b ∙ d.1)
        | inr e2 ↦ inr (items_go r k s ts b ∙ e2 ∙ ap (items_then r' k s) e ∙ sym (items_go r' k s ts b))
      ]
    ]
  ]

  pub raises-listed : (s : S) → Raises (listed_by F step s) (listed_by F' step s) (λ ts. items_by stop r step (length ts + 1) s ts) (λ ts. items_by stop r' step (length ts + 1) s ts)
  raises-listed s = record {
    spells = up_spells s;
    front = up_front s;
    deep = λ ts left e. let h = items_deep (length ts + 1) s ts left e in (h.0, h.1, listed_deep s ts h.0 h.2);
    same = λ ts. items_same (length ts + 1) s ts;
  }

-- ---- the line

module _ {S A : Type 0} (F : S → Form A) (step : S → A → S) where
  abbrev then_comma : List A → A → Form (List A)
  then_comma others first = optional (token Kinds.Comma) then λ last. give (first ∷ others)

  IsForm-further : ((s : S) → IsForm (F s)) → (s : S) → IsForm (further F step s)
  IsForm-further f s = record {
    nothing = λ ts. ([], ts, refl, inl (inl refl));
    whole = λ xs ts rest h. (xs, rest, h, inl (inl refl));
  }

  IsForm-listed : ((s : S) → IsForm (F s)) → (s : S) → IsForm (listed_by F step s)
  IsForm-listed f s = IsForm-or (some_listed_by F step s) (give [])
      (IsForm-bind (F s) _ (f s) (λ first. IsForm-bind (further F step (step s first)) _ (IsForm-further f (step s first))
      (λ others. IsForm-bind (optional (token Kinds.Comma)) (λ last. give (first ∷ others)) (IsForm-optional (token Kinds.Comma) (IsForm-token Kinds.Comma)) (λ last. IsForm-give (first ∷ others)))))
      (IsForm-give [])

  ends_then : (s : S) → Ends (F s) → Ends (comma_then (F s))
  ends_then s f = ends-bind (token Kinds.Comma) (λ c. F s) (IsForm-token Kinds.Comma) (ends-token Kinds.Comma) (λ c. f)

  ends_further : ((s : S) → Ends (F s)) → (s : S) (xs : List A) (ts rest : List Lexeme) → Further F step s xs ts rest → IsEnd rest ts
  ends_further f s [] ts rest h = record { before = []; parts = h }
  ends_further f s (x ∷ xs) ts rest h = end_then ts h.0 rest ((ends_then s (f s)).spelled x ts h.0 h.1) (ends_further f (step s x) xs h.0 rest h.2)

  is_then : (s : S) → IsForm (F s) → IsForm (comma_then (F s))
  is_then s f = IsForm-bind (token Kinds.Comma) (λ c. F s) (IsForm-token Kinds.Comma) (λ c. f)

  between_further : ((s : S) → IsForm (F s)) → ((s : S) → Ends (F s)) → (s : S) (xs : List A) (ts at mid more : List Lexeme) → Further F step s xs ts at
      → (comma_then (F (state_after F step s xs))).front at more → IsEnd mid ts → IsEnd more mid → (further F step s).front ts mid
  between_further is f s [] ts at mid more r h p q =
      ([], ts, refl, (ends_then s (f s)).between ts mid more p q (subst (λ (l : List Lexeme). (comma_then (F s)).front l more) (sym r) h))
  between_further is f s (x ∷ xs) ts at mid more (m1, e, r) h p q =
      let m = (ends_then s (f s)).spelled x ts m1 e in
      elim (le_or_more (length m1) (length mid)) [
        | inl le ↦ ([], ts, refl, (ends_then s (f s)).between ts mid m1 p (end_within ts mid m1 p m le) ((is_then s (is s)).whole x ts m1 e))
        | inr gt ↦
            let w = between_further is f (step s x) xs m1 at mid more r h (end_within ts m1 mid m p (omega arith)) q in
            (x ∷ w.0, w.1, (m1, e, w.2), w.3)
      ]

  ends-further : ((s : S) → IsForm (F s)) → ((s : S) → Ends (F s)) → (s : S) → Ends (further F step s)
  ends-further is f s = record {
    between = λ ts mid more p q h. between_further is f s h.0 ts h.1 mid more h.2 h.3 p q;
    spelled = ends_further f s;
    begun = λ ts more h. end_then ts h.1 more (ends_further f s h.0 ts h.1 h.2) ((ends_then (state_after F step s h.0) (f (state_after F step s h.0))).begun h.1 more h.3);
  }

  ends-listed : ((s : S) → IsForm (F s)) → ((s : S) → Ends (F s)) → (s : S) → Ends (listed_by F step s)
  ends-listed is f s = ends-or (some_listed_by F step s) (give [])
      (ends-bind (F s) _ (is s) (f s) (λ first. ends-bind (further F step (step s first)) _ (IsForm-further is (step s first)) (ends-further is f (step s first))
      (λ others. ends-bind (optional (token Kinds.Comma)) (λ last. give (first ∷ others)) (IsForm-optional (token Kinds.Comma) (IsForm-token Kinds.Comma))
      (ends-or _ _ (ends-bind (token Kinds.Comma) (λ a. give (Some a)) (IsForm-token Kinds.Comma) (ends-token Kinds.Comma) (λ a. ends-give (Some a))) (ends-give None)) (λ last. ends-give (first ∷ others)))))
      (ends-give [])

  takes_further : ((s : S) → Takes (F s) 0) → (s : S) (xs : List A) (ts rest : List Lexeme) → Further F step s xs ts rest → length rest ≤ length ts
  takes_further f s [] ts rest h = omega (arith, ap length h)
  takes_further f s (x ∷ xs) ts rest h = omega (arith, (takes-bind (token Kinds.Comma) (λ c. F s) 1 0 (takes-token Kinds.Comma) (λ c. f s)).taken x ts h.0 h.1, takes_further f (step s x) xs h.0 rest h.2)

  takes-listed : ((s : S) → Takes (F s) 0) → (s : S) → Takes (listed_by F step s) 0
  takes-listed f s = takes-or (some_listed_by F step s) (give []) 0
      (takes-bind (F s) _ 0 0 (f s) (λ first. takes-bind (further F step (step s first)) _ 0 0 (record { taken = λ xs ts rest h. omega (arith, takes_further f (step s first) xs ts rest h) })
      (λ others. takes-bind (optional (token Kinds.Comma)) (λ last. give (first ∷ others)) 0 0
      (takes-or _ _ 0 (takes-bind (token Kinds.Comma) (λ a. give (Some a)) 0 0 (takes-less (token Kinds.Comma) 1 0 (omega arith) (takes-token Kinds.Comma)) (λ a. takes-give (Some a))) (takes-give None)) (λ last. takes-give (first ∷ others)))))
      (takes-give [])

-- the list stops at this kind, with which no element begins
pub line-listed : {S A : Type 0} (k : TokenKind) (q : TokenKind → Bool) (F F' : S → Form A) (r r' : S → Reader A) (step : S → A → S) (Stops : List Lexeme → Type 0) → q k ≡ false → is k Kinds.Comma ≡ false → ((s : S) → Starts (F s) q)
    → ((ts : List Lexeme) → begins Kinds.Comma ts ≡ true → Stops ts) → ((ts : List Lexeme) → begins k ts ≡ true → Stops ts) → ((s : S) → Line (F s) (F' s) (r s) (r' s) Stops 1)
    → (s : S) → Line (listed_by F step s) (listed_by F' step s) (listed_at k r step s) (listed_at k r' step s) (λ ts. begins k ts ≡ true) 0
unfolding listed_at
line-listed {S} {A} k q F F' r r' step Stops apart comma starts at_comma at_end f s = record {
  form = IsForm-listed F step (λ s. (f s).form) s;
  reads = reads-listed F r step (begins k) Stops (λ s. (f s).form) (λ s. (f s).reads)
      (λ s a ts rest h. other ts ((starts s).spelled a ts rest h))
      (λ s ts more h b. elim ((starts s).begun ts more h) [ inl same ↦ same | inr head ↦ let o = other ts head in absurd cc ])
      (λ s a ts rest h. omega (arith, (f s).takes.taken a ts rest h))
      at_comma
      at_end
      not_comma s;
  raises = raises-listed F F' r r' step (begins k) (λ s. (f s).reads.sound) (λ s. (f s).raises) s;
  ends = ends-listed F step (λ s. (f s).form) (λ s. (f s).ends) s;
  takes = takes-listed F step (λ s. takes-less (F s) 1 0 (omega arith) (f s).takes) s;
}
  where
    other : (ts : List Lexeme) → head_is q ts ≡ true → begins k ts ≡ false
    other [] h = refl
    other (t ∷ ts) h = elim (cases_bool (is t.kind k)) [
      | inl y ↦ let e = ap q (is-true t.kind k y) in absurd cc
      | inr n ↦ n
    ]

    not_comma : (ts : List Lexeme) → begins k ts ≡ true → begins Kinds.Comma ts ≡ false
    not_comma [] b = refl
    not_comma (t ∷ ts) b = subst (λ (l : TokenKind). is l Kinds.Comma ≡ false) (sym (is-true t.kind k b)) comma
