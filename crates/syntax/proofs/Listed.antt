-- A list with commas, and perhaps one after the last.
use Rattle.std.proofs.Common.{◌≡◌, ℕ, zero, suc, ◌+◌, ◌≤◌, ◌<◌, Bool, true, false, List, [], ◌∷◌, length, Result, Ok, Err, refl, sym, ap}
use Rattle.std.proofs.Common.{subst, ◌∙◌, ◌⊎◌, inl, inr, arith, Option, Some, None}
use Rattle.syntax.specs.lexer.Lexeme.{Lexeme}
use Rattle.syntax.specs.declared.lexer.token.TokenKind.TheVariants as Kinds
use Rattle.syntax.specs.declared.stop.ParseStop.{ParseStop}
use Rattle.syntax.specs.Form.{Form, token, optional, comma_then, Further, further, listed_by, state_after}
use Rattle.syntax.specs.Reading.{Reader, ◌>>=◌, begins, token_at, tail_at, items_by, tokens_left}
use Rattle.syntax.proofs.Laws.{Reads, IsForm, bind_ok, bind_err, cases_bool, left_of, reads-token, at_most}
use Rattle.syntax.proofs.Numbers.{is-true, eq-is}

comma_yes : (ts : List Lexeme) → begins Kinds.Comma ts ≡ true → (c : Lexeme) × (rest : List Lexeme) × (ts ≡ c ∷ rest) × (c.kind ≡ Kinds.Comma) × (token_at Kinds.Comma ts ≡ Ok (c, rest))
comma_yes [] b = absurd cc
comma_yes (c ∷ rest) b = (c, rest, refl, is-true c.kind Kinds.Comma b, (reads-token Kinds.Comma).complete c (c ∷ rest) rest (refl, is-true c.kind Kinds.Comma b) tt)

comma_head : (ts : List Lexeme) (c : Lexeme) (rest : List Lexeme) → ts ≡ c ∷ rest → c.kind ≡ Kinds.Comma → begins Kinds.Comma ts ≡ true
comma_head ts c rest e k = rw e (eq-is c.kind Kinds.Comma k)

module _ {S A : Type 0} (F : S → Form A) (r : S → Reader A) (step : S → A → S) (stop : List Lexeme → Bool) (Stops : List Lexeme → Type 0) (isF : (s : S) → IsForm (F s)) (fr : (s : S) → Reads (F s) (r s) Stops)
    (begin : (s : S) (a : A) (ts rest : List Lexeme) → (F s).spells a ts rest → stop ts ≡ false)
    (begin_front : (s : S) (ts more : List Lexeme) → (F s).front ts more → stop ts ≡ true → more ≡ ts)
    (takes : (s : S) (a : A) (ts rest : List Lexeme) → (F s).spells a ts rest → length rest < length ts)
    (stops_comma : (ts : List Lexeme) → begins Kinds.Comma ts ≡ true → Stops ts)
    (stops_stop : (ts : List Lexeme) → stop ts ≡ true → Stops ts)
    (stop_comma : (ts : List Lexeme) → stop ts ≡ true → begins Kinds.Comma ts ≡ false) where
  -- ---- the reader, case by case

  tail_yes : (items : Reader (List A)) (ts : List Lexeme) (c : Lexeme) (rest : List Lexeme) → begins Kinds.Comma ts ≡ true → token_at Kinds.Comma ts ≡ Ok (c, rest) → tail_at items ts ≡ items rest
  unfolding tail_at
  tail_yes items ts c rest b e = rw (b, e) refl

  tail_no : (items : Reader (List A)) (ts : List Lexeme) → begins Kinds.Comma ts ≡ false → tail_at items ts ≡ Ok ([], ts)
  unfolding tail_at
  tail_no items ts b = rw b refl

  abbrev At : ℕ → S → Reader (List A)
  At k s = items_by stop r step k s

  abbrev L : S → Form (List A)
  L s = listed_by F step s

  abbrev items_then : ℕ → S → Result (A × List Lexeme) ParseStop → Result (List A × List Lexeme) ParseStop
  items_then k s x = x >>= λ a. tail_at (items_by stop r step k (step s a.0)) a.1 >>= λ y. Ok (a.0 ∷ y.0, y.1)

  items_stop : (k : ℕ) (s : S) (ts : List Lexeme) → stop ts ≡ true → At k s ts ≡ Ok ([], ts)
  unfolding items_by
  items_stop zero s ts e = refl
  items_stop (suc k) s ts e = rw e refl

  items_go : (k : ℕ) (s : S) (ts : List Lexeme) → stop ts ≡ false → At (suc k) s ts ≡ items_then k s (r s ts)
  unfolding items_by
  items_go k s ts e = rw e refl

  items_zero : (s : S) (ts : List Lexeme) → At 0 s ts ≡ Ok ([], ts)
  unfolding items_by
  items_zero s ts = refl

  -- ---- what follows an element: further ones, and perhaps a comma

  abbrev Tail : S → List A → List Lexeme → List Lexeme → Type 0
  Tail s xs ts rest = (mid : List Lexeme) × Further F step s xs ts mid × ((o : Option Lexeme) × (optional (token Kinds.Comma)).spells o mid rest)

  none_here : (ts : List Lexeme) → (o : Option Lexeme) × (optional (token Kinds.Comma)).spells o ts ts
  none_here ts = (None, inr (refl, refl))

  -- an end that the reader's list says
  ended : (xs : List A) (ts rest : List Lexeme) → ◌≡◌ {A = Result (List A × List Lexeme) ParseStop} (Ok ([], ts)) (Ok (xs, rest)) → (xs ≡ []) × (ts ≡ rest)
  ended xs ts rest e = let e' : ◌≡◌ {A = List A × List Lexeme} ([], ts) (xs, rest) = cc in (sym (ap (λ (p : List A × List Lexeme). p.0) e'), ap (λ (p : List A × List Lexeme). p.1) e')

  tail_after : (s : S) (xs : List A) (ts rest : List Lexeme) (c : Lexeme) (mid : List Lexeme) → ts ≡ c ∷ mid → c.kind ≡ Kinds.Comma → (L s).spells xs mid rest → Tail s xs ts rest
  tail_after s xs ts rest c mid e k (inr h) =
      subst (λ (l : List A). Tail s l ts rest) (sym h.0) (ts, refl, (Some c, inl (c, mid, (e, k), (refl, h.1))))
  tail_after s xs ts rest c mid e k (inl (first, m1, p, (others, m2, q, (o, m3, oq, same)))) =
      subst (λ (l : List A). Tail s l ts rest) (sym same.0) (subst (λ (l : List Lexeme). Tail s (first ∷ others) ts l) same.1 (m2, (m1, (c, mid, (e, k), p), q), (o, oq)))

  tail_sound : (k : ℕ) (s : S) → ((ts : List Lexeme) (xs : List A) (rest : List Lexeme) → At k s ts ≡ Ok (xs, rest) → (L s).spells xs ts rest)
      → (ts : List Lexeme) (xs : List A) (rest : List Lexeme) → tail_at (At k s) ts ≡ Ok (xs, rest) → Tail s xs ts rest
  tail_sound k s ih ts xs rest e = elim (cases_bool (begins Kinds.Comma ts)) [
    | inl b ↦ let w = comma_yes ts b in tail_after s xs ts rest w.0 w.1 w.2 w.3 (ih w.1 xs rest (sym (tail_yes (At k s) ts w.0 w.1 b w.4) ∙ e))
    | inr b ↦ let h = ended xs ts rest (sym (tail_no (At k s) ts b) ∙ e) in
        subst (λ (l : List A). Tail s l ts rest) (sym h.0) (subst (λ (l : List Lexeme). Tail s [] ts l) h.1 (ts, refl, none_here ts))
  ]

  ended_listed : (s : S) (xs : List A) (ts rest : List Lexeme) → ◌≡◌ {A = Result (List A × List Lexeme) ParseStop} (Ok ([], ts)) (Ok (xs, rest)) → (L s).spells xs ts rest
  ended_listed s xs ts rest e = inr (ended xs ts rest e)

  items_sound : (k : ℕ) (s : S) (ts : List Lexeme) (xs : List A) (rest : List Lexeme) → At k s ts ≡ Ok (xs, rest) → (L s).spells xs ts rest
  items_sound zero s ts xs rest e = ended_listed s xs ts rest (sym (items_zero s ts) ∙ e)
  items_sound (suc k) s ts xs rest e = elim (cases_bool (stop ts)) [
    | inl b ↦ ended_listed s xs ts rest (sym (items_stop (suc k) s ts b) ∙ e)
    | inr b ↦
        let w = bind_ok (r s ts) (λ a. tail_at (At k (step s a.0)) a.1 >>= λ y. Ok (a.0 ∷ y.0, y.1)) (xs, rest) (sym (items_go k s ts b) ∙ e) in
        let v = bind_ok (tail_at (At k (step s w.0.0)) w.0.1) (λ y. Ok (w.0.0 ∷ y.0, y.1)) (xs, rest) w.2 in
        let v2 = v.2 in
        let e' : ◌≡◌ {A = List A × List Lexeme} (w.0.0 ∷ v.0.0, v.0.1) (xs, rest) = cc in
        let t = tail_sound k (step s w.0.0) (items_sound k (step s w.0.0)) w.0.1 v.0.0 v.0.1 v.1 in
        subst (λ (p : List A × List Lexeme). (L s).spells p.0 ts p.1) e' (inl (w.0.0, w.0.1, (fr s).sound ts w.0.0 w.0.1 w.1, (v.0.0, t.0, t.1, (t.2.0, v.0.1, t.2.1, (refl, refl)))))
  ]

  -- ---- what is spelled is read

  stops_tail : (s : S) (xs : List A) (ts mid rest : List Lexeme) (o : Option Lexeme) → Further F step s xs ts mid → (optional (token Kinds.Comma)).spells o mid rest → stop rest ≡ true → Stops ts
  stops_tail s [] ts mid rest o q (inl (c, m, h, same)) st = stops_comma ts (comma_head ts c m (q ∙ h.0) h.1)
  stops_tail s [] ts mid rest o q (inr same) st = stops_stop ts (subst (λ (l : List Lexeme). stop l ≡ true) (sym (q ∙ same.1)) st)
  stops_tail s (x ∷ xs) ts mid rest o (m2, (c, m, h, p), q) oq st = stops_comma ts (comma_head ts c m h.0 h.1)

  tail_complete : (xs : List A) (k : ℕ) (s : S) (ts mid rest : List Lexeme) (o : Option Lexeme) → length ts ≤ suc k → Further F step s xs ts mid → (optional (token Kinds.Comma)).spells o mid rest → stop rest ≡ true
      → tail_at (At k s) ts ≡ Ok (xs, rest)
  tail_complete [] k s ts mid rest o le q (inl (c, m, h, same)) st =
      tail_yes (At k s) ts c m (comma_head ts c m (q ∙ h.0) h.1) ((reads-token Kinds.Comma).complete c ts m (q ∙ h.0, h.1) tt)
      ∙ items_stop k s m (subst (λ (l : List Lexeme). stop l ≡ true) (sym same.1) st) ∙ ap (λ (l : List Lexeme). Ok ([], l)) same.1
  tail_complete [] k s ts mid rest o le q (inr same) st =
      tail_no (At k s) ts (subst (λ (l : List Lexeme). begins Kinds.Comma l ≡ false) (sym (q ∙ same.1)) (stop_comma rest st)) ∙ ap (λ (l : List Lexeme). Ok ([], l)) (q ∙ same.1)
  tail_complete (x ∷ xs) zero s ts mid rest o le (m2, (c, m, h, p), q) oq st = absurd (omega (arith, takes s x m m2 p, ap length h.0))
  tail_complete (x ∷ xs) (suc k) s ts mid rest o le (m2, (c, m, h, p), q) oq st =
      let e1 = (fr s).complete x m m2 p (stops_tail (step s x) xs m2 mid rest o q oq st) in
      let e2 = tail_complete xs k (step s x) m2 mid rest o (omega (arith, takes s x m m2 p, ap length h.0)) q oq st in
      tail_yes (At (suc k) s) ts c m (comma_head ts c m h.0 h.1) ((reads-token Kinds.Comma).complete c ts m h tt)
      ∙ items_go k s m (begin s x m m2 p) ∙ rw (e1, e2) refl

  items_complete : (k : ℕ) (s : S) (ts : List Lexeme) (xs : List A) (rest : List Lexeme) → length ts ≤ k → (L s).spells xs ts rest → stop rest ≡ true → At k s ts ≡ Ok (xs, rest)
  items_complete k s ts xs rest le (inr h) st =
      items_stop k s ts (subst (λ (l : List Lexeme). stop l ≡ true) (sym h.1) st) ∙ ap (λ (l : List Lexeme). Ok ([], l)) h.1 ∙ ap (λ (l : List A). Ok (l, rest)) (sym h.0)
  items_complete zero s ts xs rest le (inl (first, m1, p, (others, m2, q, (o, m3, oq, same)))) st = absurd (omega (arith, takes s first ts m1 p))
  items_complete (suc k) s ts xs rest le (inl (first, m1, p, (others, m2, q, (o, m3, oq, same)))) st =
      let st3 : stop m3 ≡ true = subst (λ (l : List Lexeme). stop l ≡ true) (sym same.1) st in
      let e1 = (fr s).complete first ts m1 p (stops_tail (step s first) others m1 m2 m3 o q oq st3) in
      let e2 = tail_complete others k (step s first) m1 m2 m3 o (omega (arith, takes s first ts m1 p)) q oq st3 in
      items_go k s ts (begin s first ts m1 p) ∙ rw (e1, e2) (ap (λ (l : List Lexeme). Ok (first ∷ others, l)) same.1 ∙ ap (λ (l : List A). Ok (l, rest)) (sym same.0))

  -- ---- how far reading comes

  cons_left : (a : A) (z : Result (List A × List Lexeme) ParseStop) → left_of (z >>= λ y. Ok (a ∷ y.0, y.1)) ≡ left_of z
  cons_left a (Ok y) = refl
  cons_left a (Err d) = refl

  tail_left : (k : ℕ) (s : S) → ((ts : List Lexeme) → left_of (At k s ts) ≤ length ts) → (ts : List Lexeme) → left_of (tail_at (At k s) ts) ≤ length ts
  tail_left k s ih ts = elim (cases_bool (begins Kinds.Comma ts)) [
    | inl b ↦ let w = comma_yes ts b in omega (arith, ap left_of (tail_yes (At k s) ts w.0 w.1 b w.4), ih w.1, ap length w.2)
    | inr b ↦ omega (arith, ap left_of (tail_no (At k s) ts b))
  ]

  items_then_left : (k : ℕ) (s : S) (more : List Lexeme) → ((s : S) (ts : List Lexeme) → left_of (At k s ts) ≤ length ts) → (x : Result (A × List Lexeme) ParseStop) → left_of x ≤ length more → left_of (items_then k s x) ≤ length more
  items_then_left k s more ih (Ok a) le = omega (arith, cons_left a.0 (tail_at (At k (step s a.0)) a.1), tail_left k (step s a.0) (ih (step s a.0)) a.1)
  items_then_left k s more ih (Err d) le = le

  items_left : (k : ℕ) (s : S) (ts : List Lexeme) → left_of (At k s ts) ≤ length ts
  items_left zero s ts = omega (arith, ap left_of (items_zero s ts))
  items_left (suc k) s ts = elim (cases_bool (stop ts)) [
    | inl b ↦ omega (arith, ap left_of (items_stop (suc k) s ts b))
    | inr b ↦ subst (λ (x : Result (List A × List Lexeme) ParseStop). left_of x ≤ length ts) (sym (items_go k s ts b)) (items_then_left k s ts (items_left k) (r s ts) (at_most (F s) (r s) Stops (isF s) (fr s) ts))
  ]

  items_first : (k : ℕ) (s : S) (ts more : List Lexeme) → length ts ≤ k → (F s).front ts more → left_of (At k s ts) ≤ length more
  items_first zero s ts more le h = omega (arith, ap left_of (items_zero s ts))
  items_first (suc k) s ts more le h = elim (cases_bool (stop ts)) [
    | inl b ↦ omega (arith, ap left_of (items_stop (suc k) s ts b), ap length (begin_front s ts more h b))
    | inr b ↦ subst (λ (x : Result (List A × List Lexeme) ParseStop). left_of x ≤ length more) (sym (items_go k s ts b)) (items_then_left k s more (items_left k) (r s ts) ((fr s).reaches ts more h))
  ]

  -- a front of what follows an element ends so
  abbrev Last : S → List Lexeme → List Lexeme → Type 0
  Last s mid more = (more ≡ mid) ⊎ ((c : Lexeme) × (m : List Lexeme) × (mid ≡ c ∷ m) × (c.kind ≡ Kinds.Comma) × (F s).front m more)

  last_comma_then : (s : S) (mid more : List Lexeme) → (comma_then (F s)).front mid more → Last s mid more
  last_comma_then s mid more (inl (inl same)) = inl (sym same)
  last_comma_then s mid more (inl (inr (c, e, kc))) = inr (c, more, e, kc, (isF s).nothing more)
  last_comma_then s mid more (inr (c, m, h, p)) = inr (c, m, h.0, h.1, p)

  last_optional : (s : S) (mid more : List Lexeme) → (optional (token Kinds.Comma)).front mid more → Last s mid more
  last_optional s mid more (inl (inl (inl same))) = inl (sym same)
  last_optional s mid more (inl (inl (inr (c, e, kc)))) = inr (c, more, e, kc, (isF s).nothing more)
  last_optional s mid more (inl (inr (c, m, h, same))) = inr (c, m, h.0, h.1, subst (λ (l : List Lexeme). (F s).front m l) same ((isF s).nothing m))
  last_optional s mid more (inr same) = inl (sym same)

  last_spelled : (s : S) (o : Option Lexeme) (mid more : List Lexeme) → (optional (token Kinds.Comma)).spells o mid more → Last s mid more
  last_spelled s o mid more (inl (c, m, h, same)) = inr (c, m, h.0, h.1, subst (λ (l : List Lexeme). (F s).front m l) same.1 ((isF s).nothing m))
  last_spelled s o mid more (inr same) = inl (sym same.1)

  -- no comma follows: the element was the last, and the front ends behind it
  no_further : (s u v : S) (xs : List A) (a : A) (ts m2 mid more : List Lexeme) → (F s).spells a ts m2 → Further F step u xs m2 mid → Last v mid more → begins Kinds.Comma m2 ≡ false → (F s).front ts more
  no_further s u v [] a ts m2 mid more p q (inl same) b = subst ((F s).front ts) (q ∙ sym same) ((isF s).whole a ts m2 p)
  no_further s u v [] a ts m2 mid more p q (inr (c, m, e, kc, h)) b = let t = comma_head m2 c m (q ∙ e) kc in absurd cc
  no_further s u v (x ∷ xs) a ts m2 mid more p (m3, (c, m, h, p2), q) last b = let t = comma_head m2 c m h.0 h.1 in absurd cc

  tail_reaches : (xs : List A) (k : ℕ) (s : S) (ts mid more : List Lexeme) → length ts ≤ suc k → Further F step s xs ts mid → Last (state_after F step s xs) mid more → left_of (tail_at (At k s) ts) ≤ length more
  tail_reaches [] k s ts mid more le q (inl same) = omega (arith, tail_left k s (items_left k s) ts, ap length q, ap length same)
  tail_reaches [] k s ts mid more le q (inr (c, m, e, kc, h)) =
      let t = tail_yes (At k s) ts c m (comma_head ts c m (q ∙ e) kc) ((reads-token Kinds.Comma).complete c ts m (q ∙ e, kc) tt) in
      omega (arith, ap left_of t, items_first k s m more (omega (arith, ap length (q ∙ e))) h)
  tail_reaches (x ∷ xs) zero s ts mid more le (m2, (c, m, h, p), q) last = absurd (omega (arith, takes s x m m2 p, ap length h.0))
  tail_reaches (x ∷ xs) (suc k) s ts mid more le (m2, (c, m, h, p), q) last =
      let t = tail_yes (At (suc k) s) ts c m (comma_head ts c m h.0 h.1) ((reads-token Kinds.Comma).complete c ts m h tt) in
      elim (cases_bool (begins Kinds.Comma m2)) [
        | inl b ↦
            let e1 = (fr s).complete x m m2 p (stops_comma m2 b) in
            let e3 : At (suc k) s m ≡ (tail_at (At k (step s x)) m2 >>= λ y. Ok (x ∷ y.0, y.1)) = items_go k s m (begin s x m m2 p) ∙ rw e1 refl in
            omega (arith, ap left_of t, ap left_of e3, cons_left x (tail_at (At k (step s x)) m2), tail_reaches xs k (step s x) m2 mid more (omega (arith, takes s x m m2 p, ap length h.0)) q last)
        | inr b ↦ omega (arith, ap left_of t, items_first (suc k) s m more (omega (arith, ap length h.0)) (no_further s (step s x) (state_after F step (step s x) xs) xs x m m2 mid more p q last b))
      ]

  head_reaches : (xs : List A) (a : A) (k : ℕ) (s : S) (ts m1 mid more : List Lexeme) → length ts ≤ k → (F s).spells a ts m1 → Further F step (step s a) xs m1 mid → Last (state_after F step (step s a) xs) mid more → left_of (At k s ts) ≤ length more
  head_reaches xs a zero s ts m1 mid more le p q last = absurd (omega (arith, takes s a ts m1 p))
  head_reaches xs a (suc k) s ts m1 mid more le p q last = elim (cases_bool (begins Kinds.Comma m1)) [
    | inl b ↦
        let e1 = (fr s).complete a ts m1 p (stops_comma m1 b) in
        let e3 : At (suc k) s ts ≡ (tail_at (At k (step s a)) m1 >>= λ y. Ok (a ∷ y.0, y.1)) = items_go k s ts (begin s a ts m1 p) ∙ rw e1 refl in
        omega (arith, ap left_of e3, cons_left a (tail_at (At k (step s a)) m1), tail_reaches xs k (step s a) m1 mid more (omega (arith, takes s a ts m1 p)) q last)
    | inr b ↦ items_first (suc k) s ts more le (no_further s (step s a) (state_after F step (step s a) xs) xs a ts m1 mid more p q last b)
  ]

  items_reaches : (k : ℕ) (s : S) (ts more : List Lexeme) → length ts ≤ k → (L s).front ts more → left_of (At k s ts) ≤ length more
  items_reaches k s ts more le (inl (inl h)) = items_first k s ts more le h
  items_reaches k s ts more le (inl (inr (a, m1, p, inl (xs, mid, q, h)))) = head_reaches xs a k s ts m1 mid more le p q (last_comma_then (state_after F step (step s a) xs) mid more h)
  items_reaches k s ts more le (inl (inr (a, m1, p, inr (xs, mid, q, inl h)))) = head_reaches xs a k s ts m1 mid more le p q (last_optional (state_after F step (step s a) xs) mid more h)
  items_reaches k s ts more le (inl (inr (a, m1, p, inr (xs, mid, q, inr (o, m3, oq, same))))) =
      head_reaches xs a k s ts m1 mid more le p q (last_spelled (state_after F step (step s a) xs) o mid more (subst (λ (l : List Lexeme). (optional (token Kinds.Comma)).spells o mid l) same oq))
  items_reaches k s ts more le (inr same) = omega (arith, items_left k s ts, ap length same)

  -- ---- faults

  abbrev FaultFront : S → List Lexeme → List Lexeme → Type 0
  FaultFront s ts rest = (F s).front ts rest ⊎ ((a : A) × (m : List Lexeme) × (F s).spells a ts m × (further F step (step s a)).front m rest)

  abbrev FaultAt : (List Lexeme → List Lexeme → Type 0) → List Lexeme → ParseStop → Type 0
  FaultAt Front ts f = (rest : List Lexeme) × (length rest ≡ tokens_left f) × Front ts rest

  goes_further : (s : S) (ts : List Lexeme) (c : Lexeme) (m rest : List Lexeme) → ts ≡ c ∷ m → c.kind ≡ Kinds.Comma → FaultFront s m rest → (further F step s).front ts rest
  goes_further s ts c m rest e kc (inl h) = ([], ts, refl, inr (c, m, (e, kc), h))
  goes_further s ts c m rest e kc (inr (a, m1, p, (xs, mid, q, h))) = (a ∷ xs, mid, (m1, (c, m, (e, kc), p), q), h)

  tail_faults : (k : ℕ) (s : S) → ((ts : List Lexeme) (f : ParseStop) → At k s ts ≡ Err f → FaultAt (FaultFront s) ts f) → (ts : List Lexeme) (f : ParseStop) → tail_at (At k s) ts ≡ Err f → FaultAt (further F step s).front ts f
  tail_faults k s ih ts f e = elim (cases_bool (begins Kinds.Comma ts)) [
    | inl b ↦ let w = comma_yes ts b in let h = ih w.1 f (sym (tail_yes (At k s) ts w.0 w.1 b w.4) ∙ e) in (h.0, h.1, goes_further s ts w.0 w.1 h.0 w.2 w.3 h.2)
    | inr b ↦ let x = tail_no (At k s) ts b in absurd cc
  ]

  items_faults : (k : ℕ) (s : S) (ts : List Lexeme) (f : ParseStop) → At k s ts ≡ Err f → FaultAt (FaultFront s) ts f
  items_faults zero s ts f e = let x = items_zero s ts in absurd cc
  items_faults (suc k) s ts f e = elim (cases_bool (stop ts)) [
    | inl b ↦ let x = items_stop (suc k) s ts b in absurd cc
    | inr b ↦ elim (bind_err (r s ts) (λ a. tail_at (At k (step s a.0)) a.1 >>= λ y. Ok (a.0 ∷ y.0, y.1)) f (sym (items_go k s ts b) ∙ e)) [
      | inl e1 ↦ let h = (fr s).faults ts f e1 in (h.0, h.1, inl h.2)
      | inr w ↦ elim (bind_err (tail_at (At k (step s w.0.0)) w.0.1) (λ y. Ok (w.0.0 ∷ y.0, y.1)) f w.2) [
        | inl e3 ↦ let h = tail_faults k (step s w.0.0) (items_faults k (step s w.0.0)) w.0.1 f e3 in (h.0, h.1, inr (w.0.0, w.0.1, (fr s).sound ts w.0.0 w.0.1 w.1, h.2))
        | inr v ↦ let v2 = v.2 in absurd cc
      ]
    ]
  ]

  listed_front : (s : S) (ts rest : List Lexeme) → FaultFront s ts rest → (L s).front ts rest
  listed_front s ts rest (inl h) = inl (inl h)
  listed_front s ts rest (inr (a, m, p, h)) = inl (inr (a, m, p, inl h))

  pub reads-listed : (s : S) → Reads (L s) (λ ts. items_by stop r step (length ts + 1) s ts) (λ ts. stop ts ≡ true)
  reads-listed s = record {
    sound = λ ts. items_sound (length ts + 1) s ts;
    complete = λ xs ts rest h st. items_complete (length ts + 1) s ts xs rest (omega arith) h st;
    faults = λ ts f e. let h = items_faults (length ts + 1) s ts f e in (h.0, h.1, listed_front s ts h.0 h.2);
    reaches = λ ts more h. items_reaches (length ts + 1) s ts more (omega arith) h;
  }
