-- What is said of further forms of one step: the line that comes, a token that stands for something, what opens a level.
use Rattle.std.proofs.Common.{◌≡◌, ℕ, suc, ◌+◌, ◌≤◌, Bool, true, false, List, [], ◌∷◌, length, Ok, Err, Option, Some, None, refl, sym, ap}
use Rattle.std.proofs.Common.{subst, ◌∙◌, ◌⊎◌, inl, inr, arith}
use Rattle.std.specs.Option.{is_some}
use Rattle.syntax.specs.lexer.Lexeme.{Lexeme}
use Rattle.syntax.specs.lexer.Kinds.{is}
use Rattle.syntax.specs.declared.lexer.token.TokenKind.{TokenKind}
use Rattle.syntax.specs.declared.lexer.token.TokenKind.TheVariants as Kinds
use Rattle.syntax.specs.Expressions.{literal_of}
use Rattle.syntax.specs.declared.stop.ParseStop.{ParseStop}
use Rattle.syntax.specs.declared.stop.ParseStop.TheVariants.{Unexpected, TooDeep}
use Rattle.syntax.specs.ExpressionTree.{ExpressionTree, NameTree}
use Rattle.syntax.specs.Form.{Form, token, never, ◌>>=◌}
use Rattle.syntax.specs.Parts.{Inner, Closed, Inside, first_line, here, here_at, form_after_token, opened_at, stands_for, token_as, token_as_at}
use Rattle.syntax.specs.Reading.{Reader, begins, deep_at, head_is, token_at, tokens_left}
use Rattle.syntax.proofs.Binding.{After}
use Rattle.syntax.proofs.Ends.{between_one, end_shorter, end_whole, ends-flat, ends-never}
use Rattle.syntax.proofs.Laws.{bind_at, cases_bool, left_of}
use Rattle.syntax.proofs.Line.{Line, Any, line-then, line-token}
use Rattle.syntax.proofs.Numbers.{is-true}
use Rattle.syntax.proofs.Raises.{Opens, raises-flat}
use Rattle.syntax.proofs.Starts.{Starts, starts-bind, starts-never, starts-token, takes-never}

-- ---- the line of the token that comes

pub line-here : Line here here here_at here_at Any 0
line-here = record {
  form = record { nothing = λ ts. refl; whole = λ l ts rest h. h.0 };
  reads = record {
    sound = λ ts l rest e. let e' : ◌≡◌ {A = ℕ × List Lexeme} (first_line ts, ts) (l, rest) = cc in (ap (λ (p : ℕ × List Lexeme). p.1) e', sym (ap (λ (p : ℕ × List Lexeme). p.0) e'));
    complete = λ l ts rest h st. ap (λ (k : ℕ). Ok (k, ts)) (sym h.1) ∙ ap (λ (us : List Lexeme). Ok (l, us)) h.0;
    faults = λ ts f e. absurd cc;
    reaches = λ ts more h. omega (arith, ap length h);
  };
  raises = raises-flat here here_at (λ ts left e. absurd cc);
  ends = ends-flat here (λ l ts rest h. h.0) (λ ts more h. h) (λ ts more e. e);
  takes = record { taken = λ l ts rest h. omega (arith, ap length h.0) };
}

pub starts-here : {B : Type 0} (G : ℕ → Form B) (p : TokenKind → Bool) → ((l : ℕ) → Starts (G l) p) → Starts (here >>= G) p
starts-here G p g = record {
  spelled = λ b ts rest h. subst (λ (us : List Lexeme). head_is p us ≡ true) (sym h.2.0) ((g h.0).spelled b h.1 rest h.3);
  begun = λ ts more h. elim h [
    | inl same ↦ inl (sym same)
    | inr w ↦ elim ((g w.0).begun w.1 more w.3) [ inl same ↦ inl (same ∙ sym w.2.0) | inr head ↦ inr (subst (λ (us : List Lexeme). head_is p us ≡ true) (sym w.2.0) head) ]
  ];
}

-- ---- a token that stands for something

pub cases_option : {B : Type 0} (o : Option B) → (o ≡ None) ⊎ ((x : B) × (o ≡ Some x))
cases_option None = inl refl
cases_option (Some x) = inr (x, refl)

module _ {B : Type 0} (f : TokenKind → Option B) where
  pub as_some : (x : B) (u : Lexeme) (us : List Lexeme) → f u.kind ≡ Some x → token_as_at f (u ∷ us) ≡ Ok ((x, u), us)
  unfolding token_as_at
  as_some x u us e = rw e refl

  pub as_none : (u : Lexeme) (us : List Lexeme) → f u.kind ≡ None → token_as_at f (u ∷ us) ≡ Err (Unexpected (length us + 1))
  unfolding token_as_at
  as_none u us e = rw e refl

  pub as_nil : token_as_at f [] ≡ Err (Unexpected 0)
  unfolding token_as_at
  as_nil = refl

  as_sound : (ts : List Lexeme) (x : B × Lexeme) (rest : List Lexeme) → token_as_at f ts ≡ Ok (x, rest) → (token_as f).spells x ts rest
  as_sound [] x rest e = let n = as_nil in absurd cc
  as_sound (u ∷ us) x rest e = elim (cases_option (f u.kind)) [
    | inl n ↦ let none = as_none u us n in absurd cc
    | inr w ↦
        let some = as_some w.0 u us w.1 in
        let e' : ◌≡◌ {A = (B × Lexeme) × List Lexeme} ((w.0, u), us) (x, rest) = cc in
        (ap (λ (p : (B × Lexeme) × List Lexeme). p.0.1 ∷ p.1) e', subst (λ (p : (B × Lexeme) × List Lexeme). f p.0.1.kind ≡ Some p.0.0) e' w.1)
  ]

  as_complete : (x : B × Lexeme) (ts rest : List Lexeme) → (token_as f).spells x ts rest → token_as_at f ts ≡ Ok (x, rest)
  as_complete x ts rest h = rw h.0 (as_some x.0 x.1 rest h.1)

  as_faults : (ts : List Lexeme) (d : ParseStop) → token_as_at f ts ≡ Err d → (rest : List Lexeme) × (length rest ≡ tokens_left d) × (token_as f).front ts rest
  as_faults [] d e = ([], ap left_of (sym as_nil ∙ e), inl refl)
  as_faults (u ∷ us) d e = elim (cases_option (f u.kind)) [
    | inl n ↦ (u ∷ us, omega (arith, ap left_of (sym (as_none u us n) ∙ e)), inl refl)
    | inr w ↦ let some = as_some w.0 u us w.1 in absurd cc
  ]

  as_at_most : (ts : List Lexeme) → left_of (token_as_at f ts) ≤ length ts
  as_at_most [] = omega (arith, ap left_of as_nil)
  as_at_most (u ∷ us) = elim (cases_option (f u.kind)) [
    | inl n ↦ omega (arith, ap left_of (as_none u us n))
    | inr w ↦ omega (arith, ap left_of (as_some w.0 u us w.1))
  ]

  as_flat : (ts : List Lexeme) (left : ℕ) → token_as_at f ts ≡ Err (TooDeep left) → ⊥
  as_flat [] left e = let n = as_nil in cc
  as_flat (u ∷ us) left e = elim (cases_option (f u.kind)) [
    | inl n ↦ let none = as_none u us n in cc
    | inr w ↦ let some = as_some w.0 u us w.1 in cc
  ]

  pub line-as : Line (token_as f) (token_as f) (token_as_at f) (token_as_at f) Any 1
  line-as = record {
    form = record { nothing = λ ts. inl refl; whole = λ x ts rest h. inr (x, h.0, h.1) };
    reads = record {
      sound = as_sound;
      complete = λ x ts rest h st. as_complete x ts rest h;
      faults = as_faults;
      reaches = λ ts more h. elim h [
        | inl same ↦ omega (arith, as_at_most ts, ap length same)
        | inr w ↦ omega (arith, ap left_of (as_complete w.0 ts more (w.1, w.2)))
      ];
    };
    raises = raises-flat (token_as f) (token_as_at f) as_flat;
    ends = record {
      spelled = λ x ts rest h. record { before = x.1 ∷ []; parts = h.0 };
      begun = λ ts more h. elim h [ inl same ↦ record { before = []; parts = same } | inr w ↦ record { before = w.0.1 ∷ []; parts = w.1 } ];
      between = λ ts mid more p q h. elim h [
        | inl same ↦ inl (sym (end_whole ts mid p (omega (arith, ap length same, end_shorter mid more q))))
        | inr w ↦ elim (between_one ts mid more w.0.1 w.1 p q) [ inl same ↦ inl (sym same) | inr same ↦ inr (w.0, w.1 ∙ ap (λ (l : List Lexeme). w.0.1 ∷ l) (sym same), w.2) ]
      ];
    };
    takes = record { taken = λ x ts rest h. omega (arith, ap length h.0) };
  }

  pub starts-as : Starts (token_as f) (stands_for f)
  starts-as = record {
    spelled = λ x ts rest h. rw h.0 (ap is_some h.1);
    begun = λ ts more h. elim h [ inl same ↦ inl (sym same) | inr w ↦ inr (rw w.1 (ap is_some w.2)) ];
  }

-- ---- what opens a level

module _ {A : Type 0} (k : TokenKind) (G : Lexeme → Form A) (s : Lexeme → Reader A) where
  deep_yes : (ts : List Lexeme) → begins k ts ≡ true → deep_at {A = A} k ts ≡ Err (TooDeep (length ts))
  unfolding deep_at
  deep_yes ts b = rw b refl

  deep_no : (ts : List Lexeme) → begins k ts ≡ false → deep_at {A = A} k ts ≡ Err (Unexpected (length ts))
  unfolding deep_at
  deep_no ts b = rw b refl

  deep_left : (ts : List Lexeme) → left_of (deep_at {A = A} k ts) ≡ length ts
  deep_left ts = elim (cases_bool (begins k ts)) [ inl y ↦ ap left_of (deep_yes ts y) | inr n ↦ ap left_of (deep_no ts n) ]

  deep_err : (ts : List Lexeme) (x : A × List Lexeme) → deep_at {A = A} k ts ≡ Ok x → ⊥
  deep_err ts x e = elim (cases_bool (begins k ts)) [ inl y ↦ let d = deep_yes ts y in cc | inr n ↦ let d = deep_no ts n in cc ]

  open_no : (ts : List Lexeme) → begins k ts ≡ false → bind_at (token_at k) s ts ≡ Err (Unexpected (length ts))
  unfolding token_at
  open_no [] b = refl
  open_no (t ∷ ts) b = rw b (ap (λ (n : ℕ). Err (Unexpected n)) (let q : length ts + 1 ≡ suc (length ts) = omega arith in q))

  deep_opens : (ts : List Lexeme) (left : ℕ) → deep_at {A = A} k ts ≡ Err (TooDeep left) → Opens (token k >>= G) ts left
  deep_opens [] left e = let d = deep_no [] refl in absurd cc
  deep_opens (t ∷ ts) left e = elim (cases_bool (is t.kind k)) [
    | inl y ↦ let d = deep_yes (t ∷ ts) y in (ts, ap left_of (sym e ∙ d), inl (inr (t, refl, is-true t.kind k y)))
    | inr n ↦ let d = deep_no (t ∷ ts) n in absurd cc
  ]

  pub line-deep : (Stops : List Lexeme → Type 0) → Line (never {A = A}) (token k >>= G) (deep_at k) (bind_at (token_at k) s) Stops 1
  line-deep Stops = record {
    form = record { nothing = λ ts. refl; whole = λ a ts rest h. absurd h };
    reads = record {
      sound = λ ts a rest e. absurd (deep_err ts (a, rest) e);
      complete = λ a ts rest h st. absurd h;
      faults = λ ts f e. (ts, sym (deep_left ts) ∙ ap left_of e, refl);
      reaches = λ ts more h. omega (arith, deep_left ts, ap length h);
    };
    raises = record {
      spells = λ a ts rest h. absurd h;
      front = λ ts more h. inl (inl h);
      deep = deep_opens;
      same = λ ts. elim (cases_bool (begins k ts)) [
        | inl y ↦ inl (length ts, deep_yes ts y)
        | inr n ↦ inr (deep_no ts n ∙ sym (open_no ts n))
      ];
    };
    ends = ends-never;
    takes = takes-never 1;
  }

-- the kinds with which an expression begins
abbrev pub opens_expr : TokenKind → Bool
opens_expr Kinds.Name = true
opens_expr Kinds.OpenParenthesis = true
opens_expr Kinds.OpenBracket = true
opens_expr Kinds.OpenBrace = true
opens_expr Kinds.Not = true
opens_expr Kinds.Minus = true
opens_expr k = stands_for literal_of k

-- What is said of the unary expressions, at one number of levels and at one more. A name alone is one.
pub record IsUnary (F G : Form ExpressionTree) (r s : Reader ExpressionTree) : Type 0 where
  pub line : Line F G r s (After 1) 1
  pub starts : Starts F opens_expr
  pub single : (t : Lexeme) (us : List Lexeme) → t.kind ≡ Kinds.Name → F.spells (NameTree t.text t.line) (t ∷ us) us

-- The expressions of one level less, at one number of levels and at one more.
abbrev pub IsInside : Inner → Inner → Option (Bool → Reader ExpressionTree) → Option (Bool → Reader ExpressionTree) → Type 0
IsInside Closed (Inside G) None (Some s) = Unit {0}
IsInside (Inside F) (Inside G) (Some r) (Some s) = (b : Bool) → IsUnary (F b) (G b) (r b) (s b)
IsInside _ _ _ _ = ⊥

pub line-opened : {A : Type 0} (k : TokenKind) (F : (Bool → Form ExpressionTree) → Lexeme → Form A) (r : (Bool → Reader ExpressionTree) → Lexeme → Reader A) (Stops : List Lexeme → Type 0)
    → ((G G' : Bool → Form ExpressionTree) (s s' : Bool → Reader ExpressionTree) → ((b : Bool) → IsUnary (G b) (G' b) (s b) (s' b)) → (o : Lexeme) → Line (F G o) (F G' o) (r s o) (r s' o) Stops 0)
    → (u u' : Inner) (v v' : Option (Bool → Reader ExpressionTree)) → IsInside u u' v v' → Line (form_after_token k u F) (form_after_token k u' F) (opened_at k v r) (opened_at k v' r) Stops 1
unfolding opened_at
line-opened k F r Stops f Closed (Inside G) None (Some s) h = line-deep k (F G) (r s) Stops
line-opened k F r Stops f (Inside G) (Inside G') (Some s) (Some s') h =
    line-then (token k) (token k) (F G) (F G') (token_at k) (token_at k) (r s) (r s') Stops 1 0 (line-token k) (f G G' s s' h)
line-opened k F r Stops f _ _ _ _ h = absurd h

pub starts-opened : {A : Type 0} (k : TokenKind) (F : (Bool → Form ExpressionTree) → Lexeme → Form A) (u : Inner) → Starts (form_after_token k u F) (λ l. is l k)
starts-opened k F Closed = starts-never (λ l. is l k)
starts-opened k F (Inside G) = starts-bind (token k) (F G) (λ l. is l k) (starts-token k)
