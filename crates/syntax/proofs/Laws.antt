-- When a reader reads a form, and how the readers of parts make a reader of the whole.
use Rattle.std.proofs.Common.{◌≡◌, ℕ, zero, suc, ◌+◌, ◌≤◌, ◌<◌, Bool, true, false, List, [], ◌∷◌, length, Result, Ok, Err, refl, sym, ap}
use Rattle.std.proofs.Common.{subst, ◌∙◌, ◌⊎◌, inl, inr, arith, Option, Some, None}
use Rattle.syntax.specs.lexer.Lexeme.{Lexeme}
use Rattle.syntax.specs.declared.lexer.token.TokenKind.{TokenKind}
use Rattle.syntax.specs.declared.stop.ParseStop.{ParseStop}
use Rattle.syntax.specs.declared.stop.ParseStop.TheVariants.{Unexpected}
use Rattle.syntax.specs.Form.{◌>>=◌ as ◌then◌}
use Rattle.syntax.specs.Form.{Form, token, give, ◌or◌, many, Repeats, optional}
use Rattle.syntax.specs.lexer.Kinds.{is}
use Rattle.syntax.specs.Reading.{Reader, ◌>>=◌, tokens_left, token_at, many_at, or_at, optional_at}
use Rattle.syntax.proofs.Numbers.{is-true, eq-is}

-- how many tokens are left where reading stops
abbrev pub left_of : {A : Type 0} → Result (A × List Lexeme) ParseStop → ℕ
left_of (Ok x) = length x.1
left_of (Err f) = tokens_left f

-- nothing is a front, and so is a spelling
pub record IsForm {A : Type 0} (F : Form A) : Type 0 where
  pub nothing : (ts : List Lexeme) → F.front ts ts
  pub whole : (a : A) (ts rest : List Lexeme) → F.spells a ts rest → F.front ts rest

pub record Reads {A : Type 0} (F : Form A) (r : Reader A) (Stops : List Lexeme → Type 0) : Type 0 where
  pub sound : (ts : List Lexeme) (a : A) (rest : List Lexeme) → r ts ≡ Ok (a, rest) → F.spells a ts rest
  pub complete : (a : A) (ts rest : List Lexeme) → F.spells a ts rest → Stops rest → r ts ≡ Ok (a, rest)
  pub faults : (ts : List Lexeme) (f : ParseStop) → r ts ≡ Err f → (rest : List Lexeme) × (length rest ≡ tokens_left f) × F.front ts rest
  pub reaches : (ts more : List Lexeme) → F.front ts more → left_of (r ts) ≤ length more

-- ---- results

pub bind_ok : {A B : Type 0} (r : Result A ParseStop) (f : A → Result B ParseStop) (y : B) → (r >>= f) ≡ Ok y → (x : A) × (r ≡ Ok x) × (f x ≡ Ok y)
bind_ok (Ok x) f y e = (x, refl, e)
bind_ok (Err d) f y e = absurd cc

pub bind_err : {A B : Type 0} (r : Result A ParseStop) (f : A → Result B ParseStop) (d : ParseStop) → (r >>= f) ≡ Err d → (r ≡ Err d) ⊎ ((x : A) × (r ≡ Ok x) × (f x ≡ Err d))
bind_err (Ok x) f d e = inr (x, refl, e)
bind_err (Err d') f d e = inl cc

pub cases_result : {A : Type 0} (r : Result A ParseStop) → ((x : A) × (r ≡ Ok x)) ⊎ ((d : ParseStop) × (r ≡ Err d))
cases_result (Ok x) = inl (x, refl)
cases_result (Err d) = inr (d, refl)

pub cases_bool : (b : Bool) → (b ≡ true) ⊎ (b ≡ false)
cases_bool true = inl refl
cases_bool false = inr refl

-- ---- nothing

pub IsForm-give : {A : Type 0} (a : A) → IsForm (give a)
IsForm-give a = record { nothing = λ ts. refl; whole = λ x ts rest h. h.1 }

-- what a reader that reads nothing gives
abbrev pub give_at : {A : Type 0} → A → Reader A
give_at a ts = Ok (a, ts)

pub reads-give : {A : Type 0} (a : A) → Reads (give a) (give_at a) (λ ts. Unit {0})
reads-give {A} a = record {
  sound = λ ts x rest e. let e' : ◌≡◌ {A = A × List Lexeme} (a, ts) (x, rest) = cc in (sym (ap (λ (p : A × List Lexeme). p.0) e'), ap (λ (p : A × List Lexeme). p.1) e');
  complete = λ x ts rest h st. let e0 = h.0 in let e1 = h.1 in cc;
  faults = λ ts f e. absurd cc;
  reaches = λ ts more h. omega (arith, ap length h);
}

-- ---- one form, and then the next

pub IsForm-bind : {A B : Type 0} (F : Form A) (G : A → Form B) → IsForm F → ((a : A) → IsForm (G a)) → IsForm (F then G)
IsForm-bind F G f g = record {
  nothing = λ ts. inl (f.nothing ts);
  whole = λ b ts rest h. inr (h.0, h.1, h.2, (g h.0).whole b h.1 rest h.3);
}

-- at most as many tokens are left as there were
pub at_most : {A : Type 0} (F : Form A) (r : Reader A) (Stops : List Lexeme → Type 0) → IsForm F → Reads F r Stops → (ts : List Lexeme) → left_of (r ts) ≤ length ts
at_most F r Stops f h ts = h.reaches ts ts (f.nothing ts)

abbrev pub bind_at : {A B : Type 0} → Reader A → (A → Reader B) → Reader B
bind_at r s ts = r ts >>= λ x. s x.0 x.1

module _ {A B : Type 0} (F : Form A) (G : A → Form B) (r : Reader A) (s : A → Reader B) (StopsF StopsG : List Lexeme → Type 0)
    (isF : IsForm F) (isG : (a : A) → IsForm (G a)) (fr : Reads F r StopsF) (gr : (a : A) → Reads (G a) (s a) StopsG)
    (follows : (a : A) (b : B) (ts rest : List Lexeme) → (G a).spells b ts rest → StopsG rest → StopsF ts)
    (goes_on : (a : A) (ts more : List Lexeme) → (G a).front ts more → (more ≡ ts) ⊎ StopsF ts) where
  bind_left : (more : List Lexeme) (x : Result (A × List Lexeme) ParseStop) → left_of x ≤ length more → left_of (x >>= λ y. s y.0 y.1) ≤ length more
  bind_left more (Ok y) le = omega (arith, at_most (G y.0) (s y.0) StopsG (isG y.0) (gr y.0) y.1)
  bind_left more (Err d) le = le

  bind_reaches : (ts more : List Lexeme) → (F then G).front ts more → left_of (bind_at r s ts) ≤ length more
  bind_reaches ts more (inl h) = bind_left more (r ts) (fr.reaches ts more h)
  bind_reaches ts more (inr (a, mid, p, q)) =
      elim (goes_on a mid more q) [
        | inl same ↦ bind_left more (r ts) (fr.reaches ts more (subst (F.front ts) (sym same) (isF.whole a ts mid p)))
        | inr stops ↦ subst (λ (x : Result (A × List Lexeme) ParseStop). left_of (x >>= λ y. s y.0 y.1) ≤ length more) (sym (fr.complete a ts mid p stops)) ((gr a).reaches mid more q)
      ]

  bind_faults : (ts : List Lexeme) (f : ParseStop) → bind_at r s ts ≡ Err f → (rest : List Lexeme) × (length rest ≡ tokens_left f) × (F then G).front ts rest
  bind_faults ts f e =
      elim (bind_err (r ts) (λ x. s x.0 x.1) f e) [
        | inl e1 ↦ let h = fr.faults ts f e1 in (h.0, h.1, inl h.2)
        | inr w ↦ let h = (gr w.0.0).faults w.0.1 f w.2 in (h.0, h.1, inr (w.0.0, w.0.1, fr.sound ts w.0.0 w.0.1 w.1, h.2))
      ]

  pub reads-bind : Reads (F then G) (bind_at r s) StopsG
  reads-bind = record {
    sound = λ ts b rest e.
        let w = bind_ok (r ts) (λ x. s x.0 x.1) (b, rest) e in
        (w.0.0, w.0.1, fr.sound ts w.0.0 w.0.1 w.1, (gr w.0.0).sound w.0.1 b rest w.2);
    complete = λ b ts rest h st.
        let e1 = fr.complete h.0 ts h.1 h.2 (follows h.0 b h.1 rest h.3 st) in
        subst (λ (x : Result (A × List Lexeme) ParseStop). (x >>= λ y. s y.0 y.1) ≡ Ok (b, rest)) (sym e1) ((gr h.0).complete b h.1 rest h.3 st);
    faults = bind_faults;
    reaches = bind_reaches;
  }

-- ---- one of two

pub IsForm-or : {A : Type 0} (F G : Form A) → IsForm F → IsForm G → IsForm (F or G)
IsForm-or F G f g = record {
  nothing = λ ts. inl (f.nothing ts);
  whole = λ a ts rest h. elim h [ inl p ↦ inl (f.whole a ts rest p) | inr q ↦ inr (g.whole a ts rest q) ];
}

module _ {A : Type 0} (F G : Form A) (r s : Reader A) (first : List Lexeme → Bool) (Stops : List Lexeme → Type 0)
    (fr : Reads F r Stops) (gr : Reads G s Stops)
    (yes : (a : A) (ts rest : List Lexeme) → F.spells a ts rest → first ts ≡ true)
    (no : (a : A) (ts rest : List Lexeme) → G.spells a ts rest → Stops rest → first ts ≡ false)
    (yes_front : (ts more : List Lexeme) → first ts ≡ true → G.front ts more → F.front ts more)
    (no_front : (ts more : List Lexeme) → first ts ≡ false → F.front ts more → G.front ts more) where
  or_yes : (ts : List Lexeme) → first ts ≡ true → or_at first r s ts ≡ r ts
  unfolding or_at
  or_yes ts e = rw e

  or_no : (ts : List Lexeme) → first ts ≡ false → or_at first r s ts ≡ s ts
  unfolding or_at
  or_no ts e = rw e

  pub reads-or : Reads (F or G) (or_at first r s) Stops
  reads-or = record {
    sound = λ ts a rest e. elim (cases_bool (first ts)) [
      | inl t ↦ inl (fr.sound ts a rest (sym (or_yes ts t) ∙ e))
      | inr t ↦ inr (gr.sound ts a rest (sym (or_no ts t) ∙ e))
    ];
    complete = λ a ts rest h st. elim h [
      | inl p ↦ or_yes ts (yes a ts rest p) ∙ fr.complete a ts rest p st
      | inr q ↦ or_no ts (no a ts rest q st) ∙ gr.complete a ts rest q st
    ];
    faults = λ ts f e. elim (cases_bool (first ts)) [
      | inl t ↦ let h = fr.faults ts f (sym (or_yes ts t) ∙ e) in (h.0, h.1, inl h.2)
      | inr t ↦ let h = gr.faults ts f (sym (or_no ts t) ∙ e) in (h.0, h.1, inr h.2)
    ];
    reaches = λ ts more h. elim (cases_bool (first ts)) [
      | inl t ↦ subst (λ (x : Result (A × List Lexeme) ParseStop). left_of x ≤ length more) (sym (or_yes ts t)) (fr.reaches ts more (elim h [ inl p ↦ p | inr q ↦ yes_front ts more t q ]))
      | inr t ↦ subst (λ (x : Result (A × List Lexeme) ParseStop). left_of x ≤ length more) (sym (or_no ts t)) (gr.reaches ts more (elim h [ inl p ↦ no_front ts more t p | inr q ↦ q ]))
    ];
  }

-- ---- one token

pub IsForm-token : (k : TokenKind) → IsForm (token k)
IsForm-token k = record { nothing = λ ts. inl refl; whole = λ t ts rest h. inr (t, h.0, h.1) }

token_yes : (k : TokenKind) (u : Lexeme) (us : List Lexeme) → is u.kind k ≡ true → token_at k (u ∷ us) ≡ Ok (u, us)
unfolding token_at
token_yes k u us e = rw e

token_no : (k : TokenKind) (u : Lexeme) (us : List Lexeme) → is u.kind k ≡ false → token_at k (u ∷ us) ≡ Err (Unexpected (length us + 1))
unfolding token_at
token_no k u us e = rw e

token_none : (k : TokenKind) → token_at k [] ≡ Err (Unexpected 0)
unfolding token_at
token_none k = refl

token_sound : (k : TokenKind) (ts : List Lexeme) (t : Lexeme) (rest : List Lexeme) → token_at k ts ≡ Ok (t, rest) → (token k).spells t ts rest
token_sound k [] t rest e = let n = token_none k in absurd cc
token_sound k (u ∷ us) t rest e = elim (cases_bool (is u.kind k)) [
  | inl y ↦ let yes = token_yes k u us y in let e' : ◌≡◌ {A = Lexeme × List Lexeme} (u, us) (t, rest) = cc in
      (ap (λ (p : Lexeme × List Lexeme). p.0 ∷ p.1) e', sym (ap (λ (p : Lexeme × List Lexeme). p.0.kind) e') ∙ is-true u.kind k y)
  | inr n ↦ let no = token_no k u us n in absurd cc
]

token_complete : (k : TokenKind) (t : Lexeme) (ts rest : List Lexeme) → (token k).spells t ts rest → token_at k ts ≡ Ok (t, rest)
token_complete k t ts rest h = rw h.0 (token_yes k t rest (eq-is t.kind k h.1))

token_faults : (k : TokenKind) (ts : List Lexeme) (f : ParseStop) → token_at k ts ≡ Err f → (rest : List Lexeme) × (length rest ≡ tokens_left f) × (token k).front ts rest
token_faults k [] f e = ([], ap left_of (sym (token_none k) ∙ e), inl refl)
token_faults k (u ∷ us) f e = elim (cases_bool (is u.kind k)) [
  | inl y ↦ let yes = token_yes k u us y in absurd cc
  | inr n ↦ (u ∷ us, omega (arith, ap left_of (sym (token_no k u us n) ∙ e)), inl refl)
]

token_at_most : (k : TokenKind) (ts : List Lexeme) → left_of (token_at k ts) ≤ length ts
token_at_most k [] = rw token_none (omega arith)
token_at_most k (u ∷ us) = elim (cases_bool (is u.kind k)) [
  | inl y ↦ omega (arith, ap left_of (token_yes k u us y))
  | inr n ↦ omega (arith, ap left_of (token_no k u us n))
]

pub reads-token : (k : TokenKind) → Reads (token k) (token_at k) (λ ts. Unit {0})
reads-token k = record {
  sound = token_sound k;
  complete = λ t ts rest h st. token_complete k t ts rest h;
  faults = token_faults k;
  reaches = λ ts more h. elim h [
    | inl same ↦ omega (arith, token_at_most k ts, ap length same)
    | inr w ↦ omega (arith, ap left_of (token_complete k w.0 ts more (w.1, w.2)))
  ];
}

-- ---- again and again

pub IsForm-many : {A : Type 0} (F : Form A) → IsForm F → IsForm (many F)
IsForm-many F f = record {
  nothing = λ ts. ([], ts, refl, f.nothing ts);
  whole = λ xs ts rest h. (xs, rest, h, f.nothing rest);
}

module _ {A : Type 0} (F : Form A) (r : Reader A) (next : List Lexeme → Bool) (Stops StopsMany : List Lexeme → Type 0)
    (isF : IsForm F) (fr : Reads F r Stops)
    (begin : (a : A) (ts rest : List Lexeme) → F.spells a ts rest → next ts ≡ true)
    (takes : (a : A) (ts rest : List Lexeme) → F.spells a ts rest → length rest < length ts)
    (again : (ts : List Lexeme) → next ts ≡ true → Stops ts)
    (ends : (ts : List Lexeme) → StopsMany ts → (next ts ≡ false) × Stops ts)
    (begin_front : (ts more : List Lexeme) → F.front ts more → next ts ≡ false → more ≡ ts) where
  many_yes : (k : ℕ) (ts : List Lexeme) → next ts ≡ true → many_at next r (suc k) ts ≡ (r ts >>= λ x. many_at next r k x.1 >>= λ y. Ok (x.0 ∷ y.0, y.1))
  many_yes k ts e = rw e

  many_no : (k : ℕ) (ts : List Lexeme) → next ts ≡ false → many_at next r k ts ≡ Ok ([], ts)
  many_no zero ts e = refl
  many_no (suc k) ts e = rw e

  many_ended : (ts : List Lexeme) (xs : List A) (rest : List Lexeme) → ◌≡◌ {A = Result (List A × List Lexeme) ParseStop} (Ok ([], ts)) (Ok (xs, rest)) → Repeats F xs ts rest
  many_ended ts xs rest e = let e' : ◌≡◌ {A = List A × List Lexeme} ([], ts) (xs, rest) = cc in subst (λ (p : List A × List Lexeme). Repeats F p.0 ts p.1) e' refl

  many_sound : (k : ℕ) (ts : List Lexeme) (xs : List A) (rest : List Lexeme) → many_at next r k ts ≡ Ok (xs, rest) → Repeats F xs ts rest
  many_sound zero ts xs rest e = many_ended ts xs rest e
  many_sound (suc k) ts xs rest e = elim (cases_bool (next ts)) [
    | inl t ↦
        let w = bind_ok (r ts) (λ x. many_at next r k x.1 >>= λ y. Ok (x.0 ∷ y.0, y.1)) (xs, rest) (sym (many_yes k ts t) ∙ e) in
        let v = bind_ok (many_at next r k w.0.1) (λ y. Ok (w.0.0 ∷ y.0, y.1)) (xs, rest) w.2 in
        let v2 = v.2 in
        let e' : ◌≡◌ {A = List A × List Lexeme} (w.0.0 ∷ v.0.0, v.0.1) (xs, rest) = cc in
        subst (λ (p : List A × List Lexeme). Repeats F p.0 ts p.1) e' (w.0.1, fr.sound ts w.0.0 w.0.1 w.1, many_sound k w.0.1 v.0.0 v.0.1 v.1)
    | inr f ↦ many_ended ts xs rest (sym (many_no (suc k) ts f) ∙ e)
  ]

  stops_after : (xs : List A) (mid rest : List Lexeme) → Repeats F xs mid rest → StopsMany rest → Stops mid
  stops_after [] mid rest h st = subst Stops (sym h) (ends rest st).1
  stops_after (x ∷ xs) mid rest h st = again mid (begin x mid h.0 h.1)

  pub many_complete : (xs : List A) (k : ℕ) (ts rest : List Lexeme) → length ts ≤ k → Repeats F xs ts rest → StopsMany rest → many_at next r k ts ≡ Ok (xs, rest)
  many_complete [] k ts rest le h st = many_no k ts (subst (λ (z : List Lexeme). next z ≡ false) (sym h) (ends rest st).0) ∙ ap (λ (z : List Lexeme). Ok ([], z)) h
  many_complete (x ∷ xs) zero ts rest le h st = absurd (omega (arith, takes x ts h.0 h.1))
  many_complete (x ∷ xs) (suc k) ts rest le h st =
      let e1 = fr.complete x ts h.0 h.1 (stops_after xs h.0 rest h.2 st) in
      let e2 = many_complete xs k h.0 rest (omega (arith, takes x ts h.0 h.1)) h.2 st in
      many_yes k ts (begin x ts h.0 h.1) ∙ rw (e1, e2) refl

  many_left : (x : A) (z : Result (List A × List Lexeme) ParseStop) → left_of (z >>= λ y. Ok (x ∷ y.0, y.1)) ≡ left_of z
  many_left x (Ok y) = refl
  many_left x (Err d) = refl

  -- what is left once the first has been read
  then_left : (k : ℕ) (more : List Lexeme) → ((ts : List Lexeme) → left_of (many_at next r k ts) ≤ length ts) → (x : Result (A × List Lexeme) ParseStop) → left_of x ≤ length more → left_of (x >>= λ y. many_at next r k y.1 >>= λ z. Ok (y.0 ∷ z.0, z.1)) ≤ length more
  then_left k more at_most_k (Ok y) le = omega (arith, many_left y.0 (many_at next r k y.1), at_most_k y.1)
  then_left k more at_most_k (Err d) le = le

  many_at_most : (k : ℕ) (ts : List Lexeme) → left_of (many_at next r k ts) ≤ length ts
  many_at_most zero ts = omega arith
  many_at_most (suc k) ts = elim (cases_bool (next ts)) [
    | inl t ↦ subst (λ (x : Result (List A × List Lexeme) ParseStop). left_of x ≤ length ts) (sym (many_yes k ts t)) (then_left k ts (many_at_most k) (r ts) (at_most F r Stops isF fr ts))
    | inr f ↦ omega (arith, ap left_of (many_no (suc k) ts f))
  ]

  first_reaches : (k : ℕ) (ts more : List Lexeme) → length ts ≤ k → F.front ts more → left_of (many_at next r k ts) ≤ length more
  first_reaches zero ts more le h = omega arith
  first_reaches (suc k) ts more le h = elim (cases_bool (next ts)) [
    | inl t ↦ subst (λ (x : Result (List A × List Lexeme) ParseStop). left_of x ≤ length more) (sym (many_yes k ts t)) (then_left k more (many_at_most k) (r ts) (fr.reaches ts more h))
    | inr f ↦ omega (arith, ap left_of (many_no (suc k) ts f), ap length (begin_front ts more h f))
  ]

  last_front : (xs : List A) (x : A) (ts mid last more : List Lexeme) → F.spells x ts mid → Repeats F xs mid last → F.front last more → next mid ≡ false → F.front ts more
  last_front [] x ts mid last more p q h f = subst (F.front ts) (q ∙ sym (begin_front last more h (subst (λ (z : List Lexeme). next z ≡ false) q f))) (isF.whole x ts mid p)
  last_front (y ∷ ys) x ts mid last more p q h f = let t = begin y mid q.0 q.1 in absurd cc

  many_reaches : (xs : List A) (k : ℕ) (ts last more : List Lexeme) → length ts ≤ k → Repeats F xs ts last → F.front last more → left_of (many_at next r k ts) ≤ length more
  many_reaches [] k ts last more le q h = first_reaches k ts more le (subst (λ (z : List Lexeme). F.front z more) (sym q) h)
  many_reaches (x ∷ xs) zero ts last more le q h = omega arith
  many_reaches (x ∷ xs) (suc k) ts last more le q h = elim (cases_bool (next q.0)) [
    | inl t ↦
        let e1 = fr.complete x ts q.0 q.1 (again q.0 t) in
        let e2 = many_yes k ts (begin x ts q.0 q.1) in
        let e3 : many_at next r (suc k) ts ≡ (many_at next r k q.0 >>= λ y. Ok (x ∷ y.0, y.1)) = e2 ∙ rw e1 refl in
        let ih = many_reaches xs k q.0 last more (omega (arith, takes x ts q.0 q.1)) q.2 h in
        omega (arith, ih, ap left_of e3, many_left x (many_at next r k q.0))
    | inr f ↦ first_reaches (suc k) ts more le (last_front xs x ts q.0 last more q.1 q.2 h f)
  ]

  many_faults : (k : ℕ) (ts : List Lexeme) (f : ParseStop) → many_at next r k ts ≡ Err f → (rest : List Lexeme) × (length rest ≡ tokens_left f) × (many F).front ts rest
  many_faults zero ts f e = absurd cc
  many_faults (suc k) ts f e = elim (cases_bool (next ts)) [
    | inl t ↦ elim (bind_err (r ts) (λ x. many_at next r k x.1 >>= λ y. Ok (x.0 ∷ y.0, y.1)) f (sym (many_yes k ts t) ∙ e)) [
      | inl e1 ↦ let h = fr.faults ts f e1 in (h.0, h.1, ([], ts, refl, h.2))
      | inr w ↦ elim (bind_err (many_at next r k w.0.1) (λ y. Ok (w.0.0 ∷ y.0, y.1)) f w.2) [
        | inl e3 ↦ let h = many_faults k w.0.1 f e3 in (h.0, h.1, (w.0.0 ∷ h.2.0, h.2.1, (w.0.1, fr.sound ts w.0.0 w.0.1 w.1, h.2.2), h.2.3))
        | inr v ↦ let v2 = v.2 in absurd cc
      ]
    ]
    | inr n ↦ let no = many_no (suc k) ts n in absurd cc
  ]

  pub reads-many : Reads (many F) (λ ts. many_at next r (length ts) ts) StopsMany
  reads-many = record {
    sound = λ ts. many_sound (length ts) ts;
    complete = λ xs ts rest h st. many_complete xs (length ts) ts rest (omega arith) h st;
    faults = λ ts. many_faults (length ts) ts;
    reaches = λ ts more h. many_reaches h.0 (length ts) ts h.1 more (omega arith) h.2 h.3;
  }

-- ---- a form or nothing

pub IsForm-optional : {A : Type 0} (F : Form A) → IsForm F → IsForm (optional F)
IsForm-optional F f = IsForm-or (F then λ a. give (Some a)) (give None) (IsForm-bind F (λ a. give (Some a)) f (λ a. IsForm-give (Some a))) (IsForm-give None)

-- a reader that may ask for more after it
pub reads-stops : {A : Type 0} (F : Form A) (r : Reader A) (Stops More : List Lexeme → Type 0) → ((ts : List Lexeme) → More ts → Stops ts) → Reads F r Stops → Reads F r More
reads-stops F r Stops More more f = record { sound = f.sound; complete = λ a ts rest h st. f.complete a ts rest h (more rest st); faults = f.faults; reaches = f.reaches }

module _ {A : Type 0} (F : Form A) (r : Reader A) (first : List Lexeme → Bool) (Stops : List Lexeme → Type 0) (isF : IsForm F) (fr : Reads F r Stops)
    (begin : (a : A) (ts rest : List Lexeme) → F.spells a ts rest → first ts ≡ true)
    (begin_front : (ts more : List Lexeme) → F.front ts more → first ts ≡ false → more ≡ ts) where
  abbrev StopsOptional : List Lexeme → Type 0
  StopsOptional ts = (first ts ≡ false) × Stops ts

  some_form : Form (Option A)
  some_form = F then λ a. give (Some a)

  some_at : Reader (Option A)
  some_at = bind_at r (λ a. give_at (Some a))

  reads-some : Reads some_form some_at StopsOptional
  unfolding some_form some_at
  reads-some = reads-bind F (λ a. give (Some a)) r (λ a. give_at (Some a)) Stops StopsOptional isF (λ a. IsForm-give (Some a)) fr
      (λ a. reads-stops (give (Some a)) (give_at (Some a)) (λ ts. Unit {0}) StopsOptional (λ ts st. tt) (reads-give (Some a)))
      (λ a b ts rest h st. subst Stops (sym h.1) st.1)
      (λ a ts more h. inl (sym h))

  pub reads-optional : Reads (optional F) (optional_at first r) StopsOptional
  unfolding optional_at or_at some_form some_at
  reads-optional = reads-or some_form (give None) some_at (give_at None) first StopsOptional reads-some
      (reads-stops (give None) (give_at None) (λ ts. Unit {0}) StopsOptional (λ ts st. tt) (reads-give None))
      (λ o ts rest h. begin h.0 ts h.1 h.2)
      (λ o ts rest h st. subst (λ (l : List Lexeme). first l ≡ false) (sym h.1) st.0)
      (λ ts more b h. inl (subst (F.front ts) h (isF.nothing ts)))
      (λ ts more b h. elim h [ inl p ↦ sym (begin_front ts more p b) | inr w ↦ let t = begin w.0 ts w.1 w.2 in absurd cc ])
