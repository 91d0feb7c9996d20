-- How the records of the parts of a line make that of the line: one part and the next, one or none,
-- one again and again.
use Rattle.std.proofs.Common.{◌≡◌, ℕ, ◌+◌, ◌≤◌, Bool, true, false, List, [], ◌∷◌, length, Result, Err, refl, sym, ap, subst, ◌∙◌, ◌⊎◌, inl}
use Rattle.std.proofs.Common.{inr, arith, Some, None}
use Rattle.syntax.specs.lexer.Lexeme.{Lexeme}
use Rattle.syntax.specs.lexer.Kinds.{is}
use Rattle.syntax.specs.declared.lexer.token.TokenKind.{TokenKind}
use Rattle.syntax.specs.declared.stop.ParseStop.{ParseStop}
use Rattle.syntax.specs.declared.stop.ParseStop.TheVariants.{Unexpected, TooDeep}
use Rattle.syntax.specs.Form.{Form, give, never, many, Repeats, optional, ◌or◌}
use Rattle.syntax.specs.Form.{◌>>=◌ as ◌then◌}
use Rattle.syntax.specs.Reading.{Reader, many_at, or_at, optional_at, tokens_left}
use Rattle.syntax.proofs.Ends.{ends-bind, ends-give, ends-many, ends-never, ends-or}
use Rattle.syntax.proofs.Laws.{bind_at, give_at, left_of, IsForm-many, IsForm-optional, IsForm-or, reads-many, reads-optional, reads-or}
use Rattle.syntax.proofs.Line.{Any, Line, line-bind, line-give, line-stops, raises-give}
use Rattle.syntax.proofs.Numbers.{is-true}
use Rattle.syntax.proofs.Raises.{raises-bind, raises-flat, raises-many, raises-or}
use Rattle.syntax.proofs.Starts.{Starts, head_is, head_not, takes-bind, takes-give, takes-less, takes-many, takes-never, takes-or}

-- ---- one part and the next

-- where what comes first may end anywhere
pub then_line : {A B : Type 0} {F F' : Form A} {G G' : A → Form B} {r r' : Reader A} {s s' : A → Reader B} {Stops : List Lexeme
    → Type 0} {i j : ℕ}
    → Line F F' r r' Any i → ((a : A) → Line (G a) (G' a) (s a) (s' a) Stops j)
    → Line (F then G) (F' then G') (bind_at r s) (bind_at r' s') Stops (i + j)
then_line {F = F} {F' = F'} {G = G} {G' = G'} {r = r} {r' = r'} {s = s} {s' = s'} {Stops = Stops} {i = i} {j = j} f g =
    line-bind F F' G G' r r' s s' Any Stops i j f g (λ a b ts rest h st. tt) (λ a ts more h. inr tt)

-- where what comes next begins with kinds before which the first may end
pub before_line : {A B : Type 0} {F F' : Form A} {G G' : A → Form B} {r r' : Reader A} {s s' : A → Reader B} {Stops More : List Lexeme
    → Type 0} {i j : ℕ} (q : TokenKind → Bool)
    → ((ts : List Lexeme) → head_is q ts ≡ true → Stops ts) → ((a : A) → Starts (G a) q)
    → Line F F' r r' Stops i → ((a : A) → Line (G a) (G' a) (s a) (s' a) More j)
    → Line (F then G) (F' then G') (bind_at r s) (bind_at r' s') More (i + j)
before_line {F = F} {F' = F'} {G = G} {G' = G'} {r = r} {r' = r'} {s = s} {s' = s'} {Stops = Stops} {More = More} {i = i} {j = j} q stops
    starts f g =
    line-bind F F' G G' r r' s s' Stops More i j f g (λ a b ts rest h st. stops ts ((starts a).spelled b ts rest h))
    (λ a ts more h. elim ((starts a).begun ts more h) [ inl same ↦ inl same | inr head ↦ inr (stops ts head) ])

-- what is true of a kind, where a token has it
pub at_kind : (k : TokenKind) (p : TokenKind → Bool) (b : Bool) → p k ≡ b → (l : TokenKind) → is l k ≡ true → p l ≡ b
at_kind k p b e l h = ap p (is-true l k h) ∙ e

-- ---- a form or nothing

abbrev pub EndsBefore : (List Lexeme → Bool) → (List Lexeme → Type 0) → List Lexeme → Type 0
EndsBefore next Stops ts = (next ts ≡ false) × Stops ts

pub line-optional : {A : Type 0} {F F' : Form A} {r r' : Reader A} {Stops : List Lexeme → Type 0} {i : ℕ} (first : List Lexeme → Bool)
    → ((a : A) (ts rest : List Lexeme) → F.spells a ts rest → first ts ≡ true)
    → ((ts more : List Lexeme) → F.front ts more → first ts ≡ false → more ≡ ts)
    → Line F F' r r' Stops i → Line (optional F) (optional F') (optional_at first r) (optional_at first r') (EndsBefore first Stops) 0
unfolding optional_at
line-optional {F = F} {F' = F'} {r = r} {r' = r'} {Stops = Stops} {i = i} first begin begin_front f = record {
  form = IsForm-optional F f.form;
  reads = reads-optional F r first Stops f.form f.reads begin begin_front;
  raises = raises-or (F then λ a. give (Some a)) (F' then λ a. give (Some a)) (give None) (give None) (bind_at r (λ a. give_at (Some a)))
      (bind_at r' (λ a. give_at (Some a))) (give_at None) (give_at None) first
      (raises-bind F F' (λ a. give (Some a)) (λ a. give (Some a)) r r' (λ a. give_at (Some a))
      (λ a. give_at (Some a)) f.reads.sound f.raises (λ a. raises-give (Some a))) (raises-give None);
  ends = ends-or (F then λ a. give (Some a)) (give None) (ends-bind F (λ a. give (Some a)) f.form f.ends (λ a. ends-give (Some a)))
      (ends-give None);
  takes = takes-or (F then λ a. give (Some a)) (give None) 0
      (takes-less (F then λ a. give (Some a)) (i + 0) 0 (omega arith)
      (takes-bind F (λ a. give (Some a)) i 0 f.takes (λ a. takes-give (Some a)))) (takes-give None);
}

-- ---- again and again

pub line-many : {A : Type 0} {F F' : Form A} {r r' : Reader A} {Stops : List Lexeme → Type 0} {i : ℕ} (next : List Lexeme → Bool) → 1 ≤ i
    → ((a : A) (ts rest : List Lexeme) → F.spells a ts rest → next ts ≡ true) → ((ts : List Lexeme) → next ts ≡ true → Stops ts)
    → ((ts more : List Lexeme) → F.front ts more → next ts ≡ false → more ≡ ts)
    → Line F F' r r' Stops i
    → Line (many F) (many F') (λ ts. many_at next r (length ts) ts) (λ ts. many_at next r' (length ts) ts) (EndsBefore next Stops) 0
line-many {F = F} {F' = F'} {r = r} {r' = r'} {Stops = Stops} {i = i} next le begin again begin_front f = record {
  form = IsForm-many F f.form;
  reads = reads-many F r next Stops
      (EndsBefore next Stops) f.form f.reads begin (λ a ts rest h. omega (arith, f.takes.taken a ts rest h)) again (λ ts st. st)
      begin_front;
  raises = raises-many F F' r r' next f.reads.sound f.raises;
  ends = ends-many F f.form f.ends;
  takes = takes-many F (takes-less F i 0 (omega arith) f.takes);
}

-- ---- the last part, and what asks for less

pub weaken : {A : Type 0} {F F' : Form A} {r r' : Reader A} {Stops More : List Lexeme → Type 0} {i j : ℕ}
    → ((ts : List Lexeme) → More ts → Stops ts) → j ≤ i → Line F F' r r' Stops i → Line F F' r r' More j
weaken {F = F} {F' = F'} {r = r} {r' = r'} {Stops = Stops} {More = More} {i = i} {j = j} more le f =
    line-stops F F' r r' Stops More i j more le f

-- a form, and what its value gives
pub give_line : {A B : Type 0} {F F' : Form A} {r r' : Reader A} {Stops : List Lexeme → Type 0} {i : ℕ} (g : A → B) → Line F F' r r' Stops i
    → Line (F then λ a. give (g a)) (F' then λ a. give (g a)) (bind_at r (λ a. give_at (g a))) (bind_at r' (λ a. give_at (g a))) Stops
    (i + 0)
give_line {F = F} {F' = F'} {r = r} {r' = r'} {Stops = Stops} {i = i} g f =
    line-bind F F' (λ a. give (g a)) (λ a. give (g a)) r r' (λ a. give_at (g a)) (λ a. give_at (g a)) Stops Stops i 0 f
    (λ a. line-give (g a) Stops)
    (λ a b ts rest h st. subst Stops (sym h.1) st) (λ a ts more h. inl (sym h))

-- ---- one of two

pub line-or : {A : Type 0} {F F' G G' : Form A} {r r' s s' : Reader A} {Stops : List Lexeme → Type 0} {i : ℕ} (first : List Lexeme → Bool)
    → ((a : A) (ts rest : List Lexeme) → F.spells a ts rest → first ts ≡ true)
    → ((a : A) (ts rest : List Lexeme) → G.spells a ts rest → Stops rest → first ts ≡ false)
    → ((ts more : List Lexeme) → first ts ≡ true → G.front ts more → F.front ts more)
    → ((ts more : List Lexeme) → first ts ≡ false → F.front ts more → G.front ts more)
    → Line F F' r r' Stops i → Line G G' s s' Stops i → Line (F or G) (F' or G') (or_at first r s) (or_at first r' s') Stops i
line-or {F = F} {F' = F'} {G = G} {G' = G'} {r = r} {r' = r'} {s = s} {s' = s'} {Stops = Stops} {i = i} first first_yes first_no yes_front
    no_front f g = record {
      form = IsForm-or F G f.form g.form;
      reads = reads-or F G r s first Stops f.reads g.reads first_yes first_no yes_front no_front;
      raises = raises-or F F' G G' r r' s s' first f.raises g.raises;
      ends = ends-or F G f.ends g.ends;
      takes = takes-or F G i f.takes g.takes;
    }

-- where both begin with kinds of their own
pub line-apart : {A : Type 0} {F F' G G' : Form A} {r r' s s' : Reader A} {Stops : List Lexeme → Type 0} {i : ℕ}
    (first : List Lexeme → Bool) (p q : TokenKind → Bool)
    → ((ts : List Lexeme) → first ts ≡ head_is p ts) → ((k : TokenKind) → q k ≡ true → p k ≡ false) → Starts F p → Starts G q
    → Line F F' r r' Stops i → Line G G' s s' Stops i → Line (F or G) (F' or G') (or_at first r s) (or_at first r' s') Stops i
line-apart {F = F} {G = G} first p q is_first apart sf sg f g = line-or first
    (λ a ts rest h. is_first ts ∙ sf.spelled a ts rest h)
    (λ a ts rest h st. is_first ts ∙ head_not q p apart ts (sg.spelled a ts rest h))
    (λ ts more e h. elim (sg.begun ts more h) [
      | inl same ↦ subst (F.front ts) (sym same) (f.form.nothing ts)
      | inr head ↦ let o = is_first ts
          ∙ head_not q p apart ts head in absurd cc
    ])
    (λ ts more e h. elim (sf.begun ts more h)
    [ inl same ↦ subst (G.front ts) (sym same) (g.form.nothing ts) | inr head ↦ let o = is_first ts ∙ head in absurd cc ])
    f g

pub starts-weaker : {A : Type 0} (F : Form A) (p q : TokenKind → Bool) → ((k : TokenKind) → p k ≡ true → q k ≡ true) → Starts F p → Starts F q
starts-weaker F p q pq s = record {
  spelled = λ a ts rest h. weaker ts (s.spelled a ts rest h);
  begun = λ ts more h. elim (s.begun ts more h) [ inl same ↦ inl same | inr head ↦ inr (weaker ts head) ];
}
  where
    weaker : (ts : List Lexeme) → head_is p ts ≡ true → head_is q ts ≡ true
    weaker [] e = absurd cc
    weaker (t ∷ ts) e = pq t.kind e

-- ---- what may be nothing

-- a form of no token, or one that begins with these kinds
pub record Leads {A : Type 0} (F : Form A) (q : TokenKind → Bool) : Type 0 where
  pub spelled : (a : A) (ts rest : List Lexeme) → F.spells a ts rest → (rest ≡ ts) ⊎ (head_is q ts ≡ true)
  pub begun : (ts more : List Lexeme) → F.front ts more → (more ≡ ts) ⊎ (head_is q ts ≡ true)

pub leads-optional : {A : Type 0} (F : Form A) (q : TokenKind → Bool) → Starts F q → Leads (optional F) q
leads-optional F q f = record {
  spelled = λ a ts rest h. elim h [ inl p ↦ inr (f.spelled p.0 ts p.1 p.2) | inr p ↦ inl (sym p.1) ];
  begun = λ ts more h. elim h [
    | inl p ↦ elim p [ inl w ↦ f.begun ts more w | inr w ↦ inr (f.spelled w.0 ts w.1 w.2) ]
    | inr same ↦ inl (sym same)
  ];
}

pub leads-many : {A : Type 0} (F : Form A) (q : TokenKind → Bool) → Starts F q → Leads (many F) q
leads-many {A} F q f = record {
  spelled = λ xs ts rest h. repeated xs ts rest h;
  begun = λ ts more h. elim (repeated h.0 ts h.1 h.2) [
    | inl same ↦ elim (f.begun h.1 more h.3)
        [ inl e ↦ inl (e ∙ same) | inr head ↦ inr (subst (λ (l : List Lexeme). head_is q l ≡ true) same head) ]
    | inr head ↦ inr head
  ];
}
  where
    repeated : (xs : List A) (ts mid : List Lexeme) → Repeats F xs ts mid → (mid ≡ ts) ⊎ (head_is q ts ≡ true)
    repeated [] ts mid h = inl (sym h)
    repeated (x ∷ xs) ts mid h = inr (f.spelled x ts h.0 h.1)

pub leads-give : {A B : Type 0} (F : Form A) (g : A → B) (q : TokenKind → Bool) → Leads F q → Leads (F then λ a. give (g a)) q
leads-give F g q f = record {
  spelled = λ b ts rest h. elim (f.spelled h.0 ts h.1 h.2) [ inl same ↦ inl (sym h.3.1 ∙ same) | inr head ↦ inr head ];
  begun = λ ts more h. elim h [
    | inl p ↦ f.begun ts more p
    | inr w ↦ elim (f.spelled w.0 ts w.1 w.2) [ inl same ↦ inl (sym w.3 ∙ same) | inr head ↦ inr head ]
  ];
}

pub starts-behind : {A B : Type 0} (F : Form A) (G : A → Form B) (q : TokenKind → Bool) → Leads F q → ((a : A) → Starts (G a) q)
    → Starts (F then G) q
starts-behind F G q f g = record {
  spelled = λ b ts rest h. elim (f.spelled h.0 ts h.1 h.2) [
    | inl same ↦ subst (λ (l : List Lexeme). head_is q l ≡ true) same ((g h.0).spelled b h.1 rest h.3)
    | inr head ↦ head
  ];
  begun = λ ts more h. elim h [
    | inl p ↦ f.begun ts more p
    | inr w ↦ elim (f.spelled w.0 ts w.1 w.2) [
      | inl same ↦ elim ((g w.0).begun w.1 more w.3)
          [ inl e ↦ inl (e ∙ same) | inr head ↦ inr (subst (λ (l : List Lexeme). head_is q l ≡ true) same head) ]
      | inr head ↦ inr head
    ]
  ];
}

-- one part, and then what may be nothing
pub before_leads : {A B : Type 0} {F F' : Form A} {G G' : A → Form B} {r r' : Reader A} {s s' : A → Reader B} {Stops More : List Lexeme
    → Type 0} {i j : ℕ} (q : TokenKind → Bool)
    → ((ts : List Lexeme) → head_is q ts ≡ true → Stops ts) → ((ts : List Lexeme) → More ts → Stops ts) → ((a : A) → Leads (G a) q)
    → Line F F' r r' Stops i → ((a : A) → Line (G a) (G' a) (s a) (s' a) More j)
    → Line (F then G) (F' then G') (bind_at r s) (bind_at r' s') More (i + j)
before_leads {F = F} {F' = F'} {G = G} {G' = G'} {r = r} {r' = r'} {s = s} {s' = s'} {Stops = Stops} {More = More} {i = i} {j = j} q stops
    more_stops leads f g =
    line-bind F F' G G' r r' s s' Stops More i j f g
    (λ a b ts rest h st. elim
    ((leads a).spelled b ts rest h) [ inl same ↦ subst Stops same (more_stops rest st) | inr head ↦ stops ts head ])
    (λ a ts more h. elim ((leads a).begun ts more h) [ inl same ↦ inl same | inr head ↦ inr (stops ts head) ])

-- ---- no form

-- where a word has no place
pub line-none : {A : Type 0} → Line (never {A = A}) never (λ ts. Err (Unexpected (length ts))) (λ ts. Err (Unexpected (length ts))) Any 1
line-none {A} = record {
  form = record { nothing = λ ts. refl; whole = λ a ts rest h. absurd h };
  reads = record {
    sound = λ ts a rest e. absurd cc;
    complete = λ a ts rest h st. absurd h;
    faults = λ ts f e. (ts, none_left ts f e, refl);
    reaches = λ ts more h. omega (arith, ap length h);
  };
  raises = raises-flat never (λ ts. Err (Unexpected (length ts))) (λ ts left e. not_deep ts left e);
  ends = ends-never;
  takes = takes-never 1;
}
  where
    none_left : (ts : List Lexeme) (f : ParseStop) → ◌≡◌ {A = Result (A × List Lexeme) ParseStop} (Err (Unexpected (length ts))) (Err f)
        → length ts ≡ tokens_left f
    none_left ts f e = ap left_of e

    not_deep : (ts : List Lexeme) (left : ℕ) → ◌≡◌ {A = Result (A × List Lexeme) ParseStop} (Err (Unexpected (length ts))) (Err (TooDeep left))
        → ⊥
    not_deep ts left e = let e' : ◌≡◌ {A = ParseStop} (Unexpected (length ts)) (TooDeep left) = cc in cc

-- ---- two forms with the same spellings and fronts

pub record AreSame {A : Type 0} (F G : Form A) : Type 0 where
  pub spells_to : (a : A) (ts rest : List Lexeme) → F.spells a ts rest → G.spells a ts rest
  pub spells_from : (a : A) (ts rest : List Lexeme) → G.spells a ts rest → F.spells a ts rest
  pub front_to : (ts more : List Lexeme) → F.front ts more → G.front ts more
  pub front_from : (ts more : List Lexeme) → G.front ts more → F.front ts more

pub are-same : {A : Type 0} (F : Form A) → AreSame F F
are-same F = record { spells_to = λ a ts rest h. h; spells_from = λ a ts rest h. h; front_to = λ ts more h. h; front_from = λ ts more h. h }

pub line-same : {A : Type 0} (F F' G G' : Form A) (r r' : Reader A) (Stops : List Lexeme → Type 0) (i : ℕ) → AreSame F G → AreSame F' G'
    → Line F F' r r' Stops i → Line G G' r r' Stops i
line-same F F' G G' r r' Stops i s t l = record {
  form = record {
    nothing = λ ts. s.front_to ts ts (l.form.nothing ts);
    whole = λ a ts rest h. s.front_to ts rest
        (l.form.whole a ts rest (s.spells_from a ts rest h));
  };
  reads = record {
    sound = λ ts a rest e. s.spells_to a ts rest (l.reads.sound ts a rest e);
    complete = λ a ts rest h st. l.reads.complete a ts rest (s.spells_from a ts rest h) st;
    faults = λ ts f e. let h = l.reads.faults ts f e in (h.0, h.1, s.front_to ts h.0 h.2);
    reaches = λ ts more h. l.reads.reaches ts more (s.front_from ts more h);
  };
  raises = record {
    spells = λ a ts rest h. t.spells_to a ts rest (l.raises.spells a ts rest (s.spells_from a ts rest h));
    front = λ ts more h. t.front_to ts more (l.raises.front ts more (s.front_from ts more h));
    deep = λ ts left e. let h = l.raises.deep ts left e in (h.0, h.1, t.front_to ts h.0 h.2);
    same = l.raises.same;
  };
  ends = record {
    between = λ ts mid more p q h. s.front_to ts mid (l.ends.between ts mid more p q (s.front_from ts more h));
    spelled = λ a ts rest h. l.ends.spelled a ts rest (s.spells_from a ts rest h);
    begun = λ ts more h. l.ends.begun ts more
        (s.front_from ts more h);
  };
  takes = record { taken = λ a ts rest h. l.takes.taken a ts rest (s.spells_from a ts rest h) };
}
