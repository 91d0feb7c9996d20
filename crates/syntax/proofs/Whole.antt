-- What reading all tokens says, from what is said of the reader at each level.
use Rattle.std.proofs.Common.{◌≡◌, ℕ, zero, suc, ◌+◌, ◌-◌, ◌≤◌, ◌<◌, List, [], ◌∷◌, length, drop, Result, Ok, Err, refl, sym, ap, subst}
use Rattle.std.proofs.Common.{◌∙◌, inl, inr, arith, length-drop, length-append}
use Rattle.syntax.specs.lexer.Lexeme.{Lexeme}
use Rattle.syntax.specs.declared.stop.ParseStop.{ParseStop}
use Rattle.syntax.specs.declared.stop.ParseStop.TheVariants.{Unexpected, TooDeep}
use Rattle.syntax.specs.Form.{Form}
use Rattle.syntax.specs.Reading.{Reader, all_of, ends_at, tokens_left}
use Rattle.syntax.specs.Outcome.{BeginsBy, IsUnexpected, IsTooDeep}
use Rattle.syntax.proofs.Laws.{Reads, IsForm, bind_ok, bind_err, left_of}
use Rattle.syntax.proofs.Raises.{Raises, TooDeepAt}
use Rattle.syntax.proofs.Ends.{Ends, IsEnd, drop_end, end_drop, le_or_more}
use Rattle.std.proofs.lemmas.List.{drop_all}
use Rattle.std.proofs.lemmas.List.{drop-drop}

module _ {A : Type 0} (F : ℕ → Form A) (r : ℕ → Reader A) (Stops : List Lexeme → Type 0) (isF : (n : ℕ) → IsForm (F n)) (reads : (n : ℕ) → Reads (F n) (r n) Stops)
    (raises : (n : ℕ) → Raises (F n) (F (suc n)) (r n) (r (suc n))) (ends : (n : ℕ) → Ends (F n)) (stops_end : Stops []) where
  -- ---- more levels

  front_up : (j n : ℕ) (ts more : List Lexeme) → (F n).front ts more → (F (j + n)).front ts more
  front_up zero n ts more h = subst (λ (m : ℕ). (F m).front ts more) (omega arith) h
  front_up (suc j) n ts more h = subst (λ (m : ℕ). (F m).front ts more) (omega arith) ((raises (j + n)).front ts more (front_up j n ts more h))

  spells_up : (j n : ℕ) (a : A) (ts rest : List Lexeme) → (F n).spells a ts rest → (F (j + n)).spells a ts rest
  spells_up zero n a ts rest h = subst (λ (m : ℕ). (F m).spells a ts rest) (omega arith) h
  spells_up (suc j) n a ts rest h = subst (λ (m : ℕ). (F m).spells a ts rest) (omega arith) ((raises (j + n)).spells a ts rest (spells_up j n a ts rest h))

  same_up : (j n : ℕ) (ts : List Lexeme) → (TooDeepAt (r n ts) → ⊥) → r (j + n) ts ≡ r n ts
  same_up zero n ts flat = ap (λ (m : ℕ). r m ts) (omega arith)
  same_up (suc j) n ts flat =
      let ih = same_up j n ts flat in
      elim ((raises (j + n)).same ts) [
        | inl d ↦ absurd (flat (d.0, sym ih ∙ d.1))
        | inr e ↦ ap (λ (m : ℕ). r m ts) (let q : suc j + n ≡ suc (j + n) = omega arith in q) ∙ sym e ∙ ih
      ]

  -- nothing more than what was read begins the form, at any level
  reaches_any : (n m : ℕ) (ts more : List Lexeme) → (TooDeepAt (r n ts) → ⊥) → (F m).front ts more → left_of (r n ts) ≤ length more
  reaches_any n m ts more flat h =
      let up = front_up n m ts more h in
      let e : n + m ≡ m + n = omega arith in
      let same : r (n + m) ts ≡ r n ts = ap (λ (k : ℕ). r k ts) e ∙ same_up m n ts flat in
      omega (arith, (reads (n + m)).reaches ts more up, ap left_of same)

  -- what is spelled at any level is read
  complete_any : (n m : ℕ) (a : A) (ts : List Lexeme) → (TooDeepAt (r n ts) → ⊥) → (F m).spells a ts [] → r n ts ≡ Ok (a, [])
  complete_any n m a ts flat h =
      let up = spells_up n m a ts [] h in
      let e : n + m ≡ m + n = omega arith in
      let same : r (n + m) ts ≡ r n ts = ap (λ (k : ℕ). r k ts) e ∙ same_up m n ts flat in
      sym same ∙ (reads (n + m)).complete a ts [] up stops_end

  -- ---- all tokens

  ends_ok : (x : A × List Lexeme) (a : A) → ends_at x ≡ Ok a → (x.0 ≡ a) × (x.1 ≡ [])
  ends_ok (b, []) a e = (let e' : ◌≡◌ {A = Result A ParseStop} (Ok b) (Ok a) = e in cc, refl)
  ends_ok (b, t ∷ ts) a e = absurd cc

  ends_err : (x : A × List Lexeme) (f : ParseStop) → ends_at x ≡ Err f → (f ≡ Unexpected (length x.1)) × (0 < length x.1)
  ends_err (b, []) f e = absurd cc
  ends_err (b, t ∷ ts) f e = (let q : length ts + 1 ≡ suc (length ts) = omega arith in cc, omega arith)

  pub all_ok : (n : ℕ) (ts : List Lexeme) (a : A) → all_of (r n) ts ≡ Ok a → (F n).spells a ts []
  unfolding all_of
  all_ok n ts a e =
      let w = bind_ok (r n ts) (λ x. ends_at x) a e in
      let v = ends_ok w.0 a w.2 in
      let p : ◌≡◌ {A = A × List Lexeme} w.0 (a, []) = λ i. (v.0 i, v.1 i) in
      (reads n).sound ts a [] (w.1 ∙ ap (λ (q : A × List Lexeme). Ok q) p)

  pub all_complete : (n : ℕ) (ts : List Lexeme) (a : A) → (F n).spells a ts [] → all_of (r n) ts ≡ Ok a
  unfolding all_of
  all_complete n ts a h = rw ((reads n).complete a ts [] h stops_end) refl

  pub all_left_le : (n : ℕ) (ts : List Lexeme) (f : ParseStop) → all_of (r n) ts ≡ Err f → tokens_left f ≤ length ts
  unfolding all_of
  all_left_le n ts f e =
      let le = (reads n).reaches ts ts ((isF n).nothing ts) in
      elim (bind_err (r n ts) (λ x. ends_at x) f e) [
        | inl e1 ↦ omega (arith, ap left_of e1)
        | inr w ↦ let v = ends_err w.0 f w.2 in omega (arith, ap left_of w.1, ap tokens_left v.0)
      ]

  -- no other value is spelled, at any level
  pub all_only : (n m : ℕ) (ts : List Lexeme) (a b : A) → (F n).spells a ts [] → (F m).spells b ts [] → a ≡ b
  all_only n m ts a b h g =
      let e1 = (reads n).complete a ts [] h stops_end in
      let flat : TooDeepAt (r n ts) → ⊥ = λ d. let x = d.1 in cc in
      let e2 = complete_any n m b ts flat g in
      ok_same a b (sym e1 ∙ e2)
    where
      ok_same : (a b : A) → ◌≡◌ {A = Result (A × List Lexeme) ParseStop} (Ok (a, [])) (Ok (b, [])) → a ≡ b
      ok_same a b e = let e' : ◌≡◌ {A = A × List Lexeme} (a, []) (b, []) = cc in ap (λ (q : A × List Lexeme). q.0) e'

  -- where reading stops, of a reading that is not too deep
  stopped : (n : ℕ) (ts rest : List Lexeme) (k : ℕ) → (TooDeepAt (r n ts) → ⊥) → left_of (r n ts) ≡ length rest → (F n).front ts rest → k ≡ length ts - length rest
      → ((m : ℕ) (a : A) → length rest ≡ 0 → (F m).spells a ts [] → ⊥) → IsUnexpected F n ts k
  stopped n ts rest k flat left front k-is no_tree =
      let end = (ends n).begun ts rest front in
      let len : length rest ≤ length ts = omega (arith, end_le ts rest end) in
      record {
        before = (omega arith, subst (λ (l : List Lexeme). (F n).front ts l) (sym (ap (λ (i : ℕ). drop i ts) k-is ∙ drop_end ts rest end)) front);
        here = λ m lt more. past m (reaches_any n m ts (drop (k + 1) ts) flat more.1) more.0 lt len;
        at_end = λ m a full h. no_tree m a (omega arith) h;
      }
    where
      end_le : (ts rest : List Lexeme) → IsEnd rest ts → length rest ≤ length ts
      end_le ts rest p = omega (arith, ap length p.parts, length-append p.before rest)

      past : (m : ℕ) → left_of (r n ts) ≤ length (drop (k + 1) ts) → k + 1 ≤ length ts → k < length ts → length rest ≤ length ts → ⊥
      past m le a b c = omega (arith, length-drop (k + 1) ts)

  pub all_unexpected : (n : ℕ) (ts : List Lexeme) (left : ℕ) → all_of (r n) ts ≡ Err (Unexpected left) → IsUnexpected F n ts (length ts - left)
  unfolding all_of
  all_unexpected n ts left e = elim (bind_err (r n ts) (λ x. ends_at x) (Unexpected left) e) [
    | inl e1 ↦
        let h = (reads n).faults ts (Unexpected left) e1 in
        let flat : TooDeepAt (r n ts) → ⊥ = λ d. let x = d.1 in cc in
        stopped n ts h.0 (length ts - left) flat (ap left_of e1 ∙ sym h.1) h.2 (omega (arith, h.1)) (λ m a z g. let c = complete_any n m a ts flat g in absurd cc)
    | inr w ↦
        let v = ends_err w.0 (Unexpected left) w.2 in
        let flat : TooDeepAt (r n ts) → ⊥ = λ d. let x = d.1 in let y = w.1 in cc in
        let s = (reads n).sound ts w.0.0 w.0.1 w.1 in
        let left-is : left ≡ length w.0.1 = ap tokens_left v.0 in
        stopped n ts w.0.1 (length ts - left) flat (ap left_of w.1) ((isF n).whole w.0.0 ts w.0.1 s) (omega arith) (λ m a z g. absurd (omega (arith, v.1)))
  ]

  pub all_too_deep : (n : ℕ) (ts : List Lexeme) (left : ℕ) → all_of (r n) ts ≡ Err (TooDeep left) → IsTooDeep F n ts (length ts - left)
  unfolding all_of
  all_too_deep n ts left e = elim (bind_err (r n ts) (λ x. ends_at x) (TooDeep left) e) [
    | inl e1 ↦
        let h = (reads n).faults ts (TooDeep left) e1 in
        let d = (raises n).deep ts left e1 in
        deep_at h.0 h.1 h.2 d.0 d.1 d.2 e1
    | inr w ↦ let v = ends_err w.0 (TooDeep left) w.2 in let v0 = v.0 in absurd cc
  ]
    where
      end_le : (ts rest : List Lexeme) → IsEnd rest ts → length rest ≤ length ts
      end_le ts rest p = omega (arith, ap length p.parts, length-append p.before rest)

      deep_at : (rest : List Lexeme) → length rest ≡ left → (F n).front ts rest → (after : List Lexeme) → left ≡ suc (length after) → (F (suc n)).front ts after → r n ts ≡ Err (TooDeep left) → IsTooDeep F n ts (length ts - left)
      deep_at rest len front after after_len opened e1 =
          let end = (ends n).begun ts rest front in
          let end2 = (ends (suc n)).begun ts after opened in
          let le = end_le ts rest end in
          let next : length ts - left + 1 ≡ length ts - length after = omega arith in
          let same1 : length ts - left ≡ length ts - length rest = omega arith in
          record {
            before = (omega arith, subst (λ (l : List Lexeme). (F n).front ts l) (sym (ap (λ (i : ℕ). drop i ts) same1 ∙ drop_end ts rest end)) front);
            here = λ more. omega (arith, (reads n).reaches ts (drop (length ts - left + 1) ts) more.1, ap left_of e1, length-drop (length ts - left + 1) ts);
            deeper = (omega arith, subst (λ (l : List Lexeme). (F (n + 1)).front ts l) (sym (ap (λ (i : ℕ). drop i ts) next ∙ drop_end ts after end2)) (subst (λ (m : ℕ). (F m).front ts after) (omega arith) opened));
          }

  -- ---- a fault is the first

  -- what is shorter than a front is one
  pub all_shorter : (n : ℕ) (ts : List Lexeme) (j k : ℕ) → j ≤ k → BeginsBy (F n) ts k → BeginsBy (F n) ts j
  all_shorter n ts j k le h =
      let sum : k ≡ j + (k - j) = omega arith in
      let same : drop (k - j) (drop j ts) ≡ drop k ts = drop-drop (k - j) j ts ∙ ap (λ (i : ℕ). drop i ts) (sym sum) in
      (omega (arith, h.0), (ends n).between ts (drop j ts) (drop k ts) (end_drop j ts) (subst (λ (l : List Lexeme). IsEnd l (drop j ts)) same (end_drop (k - j) (drop j ts))) h.1)

  not_past : (n : ℕ) (ts : List Lexeme) (k j : ℕ) → IsUnexpected F n ts k → (m : ℕ) → BeginsBy (F m) ts j → j ≤ k
  not_past n ts k j h m b = elim (le_or_more j k) [
    | inl le ↦ le
    | inr gt ↦ absurd (h.here m (omega (arith, b.0)) (all_shorter m ts (k + 1) j (omega arith) b))
  ]

  not_deeper : (n : ℕ) (ts : List Lexeme) (k j : ℕ) → IsTooDeep F n ts k → BeginsBy (F n) ts j → j ≤ k
  not_deeper n ts k j h b = elim (le_or_more j k) [
    | inl le ↦ le
    | inr gt ↦ absurd (h.here (all_shorter n ts (k + 1) j (omega arith) b))
  ]

  pub one_unexpected : (n : ℕ) (ts : List Lexeme) (j k : ℕ) → IsUnexpected F n ts j → IsUnexpected F n ts k → j ≡ k
  one_unexpected n ts j k h g = omega (arith, not_past n ts j k h n g.before, not_past n ts k j g n h.before)

  pub one_too_deep : (n : ℕ) (ts : List Lexeme) (j k : ℕ) → IsTooDeep F n ts j → IsTooDeep F n ts k → j ≡ k
  one_too_deep n ts j k h g = omega (arith, not_deeper n ts j k h g.before, not_deeper n ts k j g h.before)

  pub not_both : (n : ℕ) (ts : List Lexeme) (j k : ℕ) → IsUnexpected F n ts j → IsTooDeep F n ts k → ⊥
  not_both n ts j k h g = omega (arith, not_past n ts j (k + 1) h (n + 1) g.deeper, not_deeper n ts k j g h.before)

  whole_front : (n : ℕ) (ts : List Lexeme) (a : A) → (F n).spells a ts [] → BeginsBy (F n) ts (length ts)
  whole_front n ts a h = (omega arith, subst (λ (l : List Lexeme). (F n).front ts l) (sym (drop_all (length ts) ts (omega arith))) ((isF n).whole a ts [] h))

  pub none_unexpected : (n : ℕ) (ts : List Lexeme) (a : A) (k : ℕ) → (F n).spells a ts [] → IsUnexpected F n ts k → ⊥
  none_unexpected n ts a k h g =
      g.at_end n a (omega (arith, not_past n ts k (length ts) g n (whole_front n ts a h), g.before.0)) h

  pub none_too_deep : (n : ℕ) (ts : List Lexeme) (a : A) (k : ℕ) → (F n).spells a ts [] → IsTooDeep F n ts k → ⊥
  none_too_deep n ts a k h g = omega (arith, not_deeper n ts k (length ts) g (whole_front n ts a h), g.deeper.0)
