-- All that is said of one line of the grammar, at one number of levels and at one more, in one record.
use Rattle.std.proofs.Common.{◌≡◌, ℕ, ◌+◌, ◌≤◌, Bool, true, false, List, [], ◌∷◌, length, Ok, Err, refl, sym, ap, subst, ◌∙◌, ◌⊎◌, inl, inr}
use Rattle.syntax.specs.Form.{Form, token, give, ◌>>=◌, ◌or◌}
use Rattle.syntax.specs.lexer.Kinds.{is}
use Rattle.syntax.specs.lexer.Lexeme.{Lexeme}
use Rattle.syntax.specs.Reading.{Reader, begins, head_is, or_at, token_at}
use Rattle.syntax.specs.declared.stop.ParseStop.TheVariants.{Unexpected, TooDeep}
use Rattle.syntax.specs.declared.lexer.token.TokenKind.{TokenKind}
use Rattle.syntax.proofs.Ends.{Ends, ends-bind, ends-give, ends-or, ends-token}
use Rattle.syntax.proofs.Laws.{bind_at, cases_bool, give_at, IsForm, IsForm-bind, IsForm-give, IsForm-or, IsForm-token, reads-bind}
use Rattle.syntax.proofs.Laws.{reads-give, reads-or, reads-stops, reads-token, Reads}
use Rattle.syntax.proofs.Raises.{Raises, raises-bind, raises-flat, raises-or}
use Rattle.syntax.proofs.Starts.{Starts, Takes, head_is, begins-head, takes-bind, takes-give, takes-less, takes-or, takes-token}
use Rattle.syntax.proofs.Numbers.{eq-is, is-true}

-- A form and its reader, and both with one more level: where the form ends, and how many tokens it takes at least.
pub record Line {A : Type 0} (F F' : Form A) (r r' : Reader A) (Stops : List Lexeme → Type 0) (least : ℕ) : Type 0 where
  pub form : IsForm F
  pub reads : Reads F r Stops
  pub raises : Raises F F' r r'
  pub ends : Ends F
  pub takes : Takes F least

abbrev pub Any : List Lexeme → Type 0
Any ts = Unit {0}

token_flat : (k : TokenKind) (ts : List Lexeme) (left : ℕ) → token_at k ts ≡ Err (TooDeep left) → ⊥
unfolding token_at
token_flat k [] left e = cc
token_flat k (t ∷ ts) left e = elim (cases_bool (is t.kind k)) [
  | inl y ↦ let yes = token_yes k t ts y in cc
  | inr n ↦ let no = token_no k t ts n in cc
]
  where
    token_yes : (k : TokenKind) (u : Lexeme) (us : List Lexeme) → is u.kind k ≡ true → token_at k (u ∷ us) ≡ Ok (u, us)
    token_yes k u us e = rw e

    token_no : (k : TokenKind) (u : Lexeme) (us : List Lexeme) → is u.kind k ≡ false → token_at k (u ∷ us) ≡ Err (Unexpected (length us + 1))
    token_no k u us e = rw e

pub raises-token : (k : TokenKind) → Raises (token k) (token k) (token_at k) (token_at k)
raises-token k = raises-flat (token k) (token_at k) (token_flat k)

pub raises-give : {A : Type 0} (a : A) → Raises (give a) (give a) (give_at a) (give_at a)
raises-give a = raises-flat (give a) (give_at a) (λ ts left e. absurd cc)

pub line-token : (k : TokenKind) → Line (token k) (token k) (token_at k) (token_at k) Any 1
line-token k = record { form = IsForm-token k; reads = reads-token k; raises = raises-token k; ends = ends-token k; takes = takes-token k }

pub line-give : {A : Type 0} (a : A) (Stops : List Lexeme → Type 0) → Line (give a) (give a) (give_at a) (give_at a) Stops 0
line-give a Stops = record { form = IsForm-give a; reads = reads-stops (give a) (give_at a) Any Stops (λ ts st. tt) (reads-give a); raises = raises-give a; ends = ends-give a; takes = takes-give a }

-- a line that may ask for more after it, and for fewer tokens
pub line-stops : {A : Type 0} (F F' : Form A) (r r' : Reader A) (Stops More : List Lexeme → Type 0) (i j : ℕ) → ((ts : List Lexeme) → More ts → Stops ts) → j ≤ i → Line F F' r r' Stops i → Line F F' r r' More j
line-stops F F' r r' Stops More i j more le f = record { form = f.form; reads = reads-stops F r Stops More more f.reads; raises = f.raises; ends = f.ends; takes = takes-less F i j le f.takes }

pub line-bind : {A B : Type 0} (F F' : Form A) (G G' : A → Form B) (r r' : Reader A) (s s' : A → Reader B) (StopsF StopsG : List Lexeme → Type 0) (i j : ℕ)
    → Line F F' r r' StopsF i → ((a : A) → Line (G a) (G' a) (s a) (s' a) StopsG j)
    → ((a : A) (b : B) (ts rest : List Lexeme) → (G a).spells b ts rest → StopsG rest → StopsF ts)
    → ((a : A) (ts more : List Lexeme) → (G a).front ts more → (more ≡ ts) ⊎ StopsF ts)
    → Line (F >>= G) (F' >>= G') (bind_at r s) (bind_at r' s') StopsG (i + j)
line-bind F F' G G' r r' s s' StopsF StopsG i j f g follows goes_on = record {
  form = IsForm-bind F G f.form (λ a. (g a).form);
  reads = reads-bind F G r s StopsF StopsG f.form (λ a. (g a).form) f.reads (λ a. (g a).reads) follows goes_on;
  raises = raises-bind F F' G G' r r' s s' f.reads.sound f.raises (λ a. (g a).raises);
  ends = ends-bind F G f.form f.ends (λ a. (g a).ends);
  takes = takes-bind F G i j f.takes (λ a. (g a).takes);
}

-- where what comes first may end anywhere
pub line-then : {A B : Type 0} (F F' : Form A) (G G' : A → Form B) (r r' : Reader A) (s s' : A → Reader B) (StopsG : List Lexeme → Type 0) (i j : ℕ)
    → Line F F' r r' Any i → ((a : A) → Line (G a) (G' a) (s a) (s' a) StopsG j) → Line (F >>= G) (F' >>= G') (bind_at r s) (bind_at r' s') StopsG (i + j)
line-then F F' G G' r r' s s' StopsG i j f g = line-bind F F' G G' r r' s s' Any StopsG i j f g (λ a b ts rest h st. tt) (λ a ts more h. inr tt)

-- ---- one of two

-- two forms, of which the first begins with one kind, and the second with none such
pub line-choice : {A : Type 0} (k : TokenKind) (q : TokenKind → Bool) (F F' G G' : Form A) (r r' s s' : Reader A) (Stops : List Lexeme → Type 0) (i : ℕ)
    → Starts F (λ l. is l k) → Starts G q → q k ≡ false → Line F F' r r' Stops i → Line G G' s s' Stops i → Line (F or G) (F' or G') (or_at (begins k) r s) (or_at (begins k) r' s') Stops i
line-choice k q F F' G G' r r' s s' Stops i sf sg apart f g = record {
  form = IsForm-or F G f.form g.form;
  reads = reads-or F G r s (begins k) Stops f.reads g.reads
      (λ a ts rest h. begins-head k ts ∙ sf.spelled a ts rest h)
      (λ a ts rest h st. other ts (sg.spelled a ts rest h))
      (λ ts more b h. elim (sg.begun ts more h) [ inl same ↦ nothing_of F f.form ts more same | inr head ↦ let o = other ts head in absurd cc ])
      (λ ts more b h. elim (sf.begun ts more h) [ inl same ↦ nothing_of G g.form ts more same | inr head ↦ let o = begins-head k ts in absurd cc ]);
  raises = raises-or F F' G G' r r' s s' (begins k) f.raises g.raises;
  ends = ends-or F G f.ends g.ends;
  takes = takes-or F G i f.takes g.takes;
}
  where
    other : (ts : List Lexeme) → head_is q ts ≡ true → begins k ts ≡ false
    other [] h = refl
    other (t ∷ ts) h = elim (cases_bool (is t.kind k)) [
      | inl y ↦ let e = ap q (is-true t.kind k y) in absurd cc
      | inr n ↦ n
    ]

    nothing_of : {A : Type 0} (F : Form A) → IsForm F → (ts more : List Lexeme) → more ≡ ts → F.front ts more
    nothing_of F f ts more e = subst (F.front ts) (sym e) (f.nothing ts)

-- ---- behind a token

pub begins_token : {B : Type 0} (k : TokenKind) (G : Lexeme → Form B) (b : B) (ts rest : List Lexeme) → (token k >>= G).spells b ts rest → begins k ts ≡ true
begins_token k G b ts rest h = rw h.2.0 (eq-is h.0.kind k h.2.1)

pub begun_token : {B : Type 0} (k : TokenKind) (G : Lexeme → Form B) (ts more : List Lexeme) → (token k >>= G).front ts more → (more ≡ ts) ⊎ (begins k ts ≡ true)
begun_token k G ts more (inl (inl same)) = inl (sym same)
begun_token k G ts more (inl (inr (t, e, l))) = inr (rw e (eq-is t.kind k l))
begun_token k G ts more (inr (t, m, h, f)) = inr (rw h.0 (eq-is t.kind k h.1))
