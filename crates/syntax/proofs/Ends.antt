-- What comes after a spelling or a front is the end of the list, and what is shorter than a front is one too.
use Rattle.std.proofs.Common.{◌≡◌, ℕ, ◌+◌, ◌-◌, ◌≤◌, ◌<◌, List, [], ◌∷◌, ◌++◌, length, take, drop, refl, sym, ap, subst, ◌∙◌, ◌⊎◌, inl, inr}
use Rattle.std.proofs.Common.{arith, append_assoc, length-append}
use Rattle.std.proofs.lemmas.Bool.{cases_lt}
use Rattle.std.proofs.lemmas.List.{drop_at, take-append-drop}
use Rattle.std.proofs.lemmas.List.{drop-drop}
use Rattle.syntax.specs.lexer.Lexeme.{Lexeme}
use Rattle.syntax.specs.declared.lexer.token.TokenKind.{TokenKind}
use Rattle.syntax.specs.Form.{Form, token, give, ◌>>=◌, ◌or◌, never, many, Repeats}
use Rattle.syntax.proofs.Laws.{IsForm}

pub record IsEnd (rest ts : List Lexeme) : Type 0 where
  pub before : List Lexeme
  pub parts : ts ≡ before ++ rest

pub record Ends {A : Type 0} (F : Form A) : Type 0 where
  pub spelled : (a : A) (ts rest : List Lexeme) → F.spells a ts rest → IsEnd rest ts
  pub begun : (ts more : List Lexeme) → F.front ts more → IsEnd more ts
  pub between : (ts mid more : List Lexeme) → IsEnd mid ts → IsEnd more mid → F.front ts more → F.front ts mid

end_same : (ts more : List Lexeme) → ts ≡ more → IsEnd more ts
end_same ts more e = record { before = []; parts = e }

pub end_then : (ts mid rest : List Lexeme) → IsEnd mid ts → IsEnd rest mid → IsEnd rest ts
end_then ts mid rest p q = record { before = p.before ++ q.before; parts = p.parts ∙ ap (λ (l : List Lexeme). p.before ++ l) q.parts ∙ sym (append_assoc p.before q.before rest) }

-- ---- two ends of one list

pub le_or_more : (m n : ℕ) → (m ≤ n) ⊎ (n < m)
le_or_more m n = elim (cases_lt n m) [ inl lt ↦ inr lt | inr le ↦ inl le ]

pub end_shorter : (ts rest : List Lexeme) → IsEnd rest ts → length rest ≤ length ts
end_shorter ts rest p = omega (arith, ap length p.parts, length-append p.before rest)

none_before : (ts rest before : List Lexeme) → ts ≡ before ++ rest → length ts ≤ length rest → rest ≡ ts
none_before ts rest [] e le = sym e
none_before ts rest (b ∷ bs) e le = absurd (omega (arith, ap length e, length-append (b ∷ bs) rest))

-- an end that is as long is the whole
pub end_whole : (ts rest : List Lexeme) → IsEnd rest ts → length ts ≤ length rest → rest ≡ ts
end_whole ts rest p le = none_before ts rest p.before p.parts le

pub drop_end : (ts rest : List Lexeme) → IsEnd rest ts → drop (length ts - length rest) ts ≡ rest
drop_end ts rest p =
    let len : length ts - length rest ≡ length p.before = omega (arith, ap length p.parts, length-append p.before rest) in
    rw (len, p.parts) (drop_at p.before rest (length p.before) refl)

pub end_drop : (n : ℕ) (ts : List Lexeme) → IsEnd (drop n ts) ts
end_drop n ts = record { before = take n ts; parts = sym (take-append-drop n ts) }

-- the shorter one is an end of the longer one
pub end_within : (ts mid rest : List Lexeme) → IsEnd mid ts → IsEnd rest ts → length rest ≤ length mid → IsEnd rest mid
end_within ts mid rest p q le =
    let i = length ts - length mid in
    let j = length mid - length rest in
    let le1 = end_shorter ts mid p in
    let sum : length ts - length rest ≡ i + j = omega arith in
    let same : drop j mid ≡ rest = ap (drop j) (sym (drop_end ts mid p)) ∙ drop-drop j i ts ∙ ap (λ (n : ℕ). drop n ts) (sym sum) ∙ drop_end ts rest q in
    subst (λ (l : List Lexeme). IsEnd l mid) same (end_drop j mid)

-- what stands between a list and its end without the first token is one of them
pub between_one : (ts mid more : List Lexeme) (t : Lexeme) → ts ≡ t ∷ more → IsEnd mid ts → IsEnd more mid → (mid ≡ ts) ⊎ (mid ≡ more)
between_one ts mid more t e p q = elim (le_or_more (length ts) (length mid)) [
  | inl le ↦ inl (end_whole ts mid p le)
  | inr gt ↦ inr (sym (end_whole mid more q (omega (arith, ap length e))))
]

between_none : (ts mid more : List Lexeme) → ts ≡ more → IsEnd mid ts → IsEnd more mid → ts ≡ mid
between_none ts mid more e p q = sym (end_whole ts mid p (omega (arith, ap length e, end_shorter mid more q)))

-- ---- the forms

pub ends-token : (k : TokenKind) → Ends (token k)
ends-token k = record {
  spelled = λ t ts rest h. record { before = t ∷ []; parts = h.0 };
  begun = λ ts more h. elim h [ inl e ↦ end_same ts more e | inr w ↦ record { before = w.0 ∷ []; parts = w.1 } ];
  between = λ ts mid more p q h. elim h [
    | inl e ↦ inl (between_none ts mid more e p q)
    | inr w ↦ elim (between_one ts mid more w.0 w.1 p q) [ inl same ↦ inl (sym same) | inr same ↦ inr (w.0, w.1 ∙ ap (λ (l : List Lexeme). w.0 ∷ l) (sym same), w.2) ]
  ];
}

pub ends-give : {A : Type 0} (a : A) → Ends (give a)
ends-give a = record { spelled = λ x ts rest h. end_same ts rest h.1; begun = λ ts more h. end_same ts more h; between = λ ts mid more p q h. between_none ts mid more h p q }

-- a form whose fronts leave all tokens
pub ends-flat : {A : Type 0} (F : Form A) → ((a : A) (ts rest : List Lexeme) → F.spells a ts rest → ts ≡ rest) → ((ts more : List Lexeme) → F.front ts more → ts ≡ more)
    → ((ts more : List Lexeme) → ts ≡ more → F.front ts more) → Ends F
ends-flat F spelled begun from = record {
  spelled = λ a ts rest h. end_same ts rest (spelled a ts rest h);
  begun = λ ts more h. end_same ts more (begun ts more h);
  between = λ ts mid more p q h. from ts mid (between_none ts mid more (begun ts more h) p q);
}

pub ends-bind : {A B : Type 0} (F : Form A) (G : A → Form B) → IsForm F → Ends F → ((a : A) → Ends (G a)) → Ends (F >>= G)
ends-bind F G isF f g = record {
  between = λ ts mid more p q h. elim h [
    | inl h1 ↦ inl (f.between ts mid more p q h1)
    | inr w ↦ let m = f.spelled w.0 ts w.1 w.2 in elim (le_or_more (length w.1) (length mid)) [
      | inl le ↦ inl (f.between ts mid w.1 p (end_within ts mid w.1 p m le) (isF.whole w.0 ts w.1 w.2))
      | inr gt ↦ inr (w.0, w.1, w.2, (g w.0).between w.1 mid more (end_within ts w.1 mid m p (omega arith)) q w.3)
    ]
  ];
  spelled = λ b ts rest h. end_then ts h.1 rest (f.spelled h.0 ts h.1 h.2) ((g h.0).spelled b h.1 rest h.3);
  begun = λ ts more h. elim h [ inl p ↦ f.begun ts more p | inr w ↦ end_then ts w.1 more (f.spelled w.0 ts w.1 w.2) ((g w.0).begun w.1 more w.3) ];
}

pub ends-or : {A : Type 0} (F G : Form A) → Ends F → Ends G → Ends (F or G)
ends-or F G f g = record {
  between = λ ts mid more p q h. elim h [ inl x ↦ inl (f.between ts mid more p q x) | inr y ↦ inr (g.between ts mid more p q y) ];
  spelled = λ a ts rest h. elim h [ inl p ↦ f.spelled a ts rest p | inr q ↦ g.spelled a ts rest q ];
  begun = λ ts more h. elim h [ inl p ↦ f.begun ts more p | inr q ↦ g.begun ts more q ];
}

pub ends-never : {A : Type 0} → Ends (never {A = A})
ends-never = record { spelled = λ a ts rest h. absurd h; begun = λ ts more h. end_same ts more h; between = λ ts mid more p q h. between_none ts mid more h p q }

ends_repeats : {A : Type 0} (F : Form A) → Ends F → (xs : List A) (ts rest : List Lexeme) → Repeats F xs ts rest → IsEnd rest ts
ends_repeats F f [] ts rest h = end_same ts rest h
ends_repeats F f (x ∷ xs) ts rest h = end_then ts h.0 rest (f.spelled x ts h.0 h.1) (ends_repeats F f xs h.0 rest h.2)

between_repeats : {A : Type 0} (F : Form A) → IsForm F → Ends F → (xs : List A) (ts at mid more : List Lexeme) → Repeats F xs ts at → F.front at more
    → IsEnd mid ts → IsEnd more mid → (many F).front ts mid
between_repeats F isF f [] ts at mid more r h p q = ([], ts, refl, f.between ts mid more p q (subst (λ (l : List Lexeme). F.front l more) (sym r) h))
between_repeats F isF f (x ∷ xs) ts at mid more (m1, s, r) h p q =
    let m = f.spelled x ts m1 s in
    elim (le_or_more (length m1) (length mid)) [
      | inl le ↦ ([], ts, refl, f.between ts mid m1 p (end_within ts mid m1 p m le) (isF.whole x ts m1 s))
      | inr gt ↦
          let w = between_repeats F isF f xs m1 at mid more r h (end_within ts m1 mid m p (omega arith)) q in
          (x ∷ w.0, w.1, (m1, s, w.2), w.3)
    ]

pub ends-many : {A : Type 0} (F : Form A) → IsForm F → Ends F → Ends (many F)
ends-many F isF f = record {
  between = λ ts mid more p q h. between_repeats F isF f h.0 ts h.1 mid more h.2 h.3 p q;
  spelled = ends_repeats F f;
  begun = λ ts more h. end_then ts h.1 more (ends_repeats F f h.0 ts h.1 h.2) (f.begun h.1 more h.3);
}
