-- Which statement comes: what its first tokens are.
use Rattle.std.proofs.Common.{◌≡◌, Bool, true, false, cond, List, [], ◌∷◌, refl, sym, ap, ◌∙◌, ◌⊎◌, inl, inr}
use Rattle.std.proofs.lemmas.Bool.{and_from, and_parts, and_right, or_from}
use Rattle.syntax.specs.lexer.Lexeme.{Lexeme}
use Rattle.syntax.specs.lexer.Kinds.{is}
use Rattle.syntax.specs.declared.lexer.token.TokenKind.{TokenKind}
use Rattle.syntax.specs.declared.lexer.token.TokenKind.TheVariants as Kinds
use Rattle.syntax.specs.Form.{Form, token, ◌>>=◌, ◌or◌}
use Rattle.syntax.specs.Reading.{begins, two_begin}
use Rattle.syntax.specs.ReadingStatements.{ends_line, in_line, ends_body, in_body, opens_block, begins_block}
use Rattle.syntax.proofs.Chain.{at_kind}
use Rattle.syntax.proofs.Laws.{cases_bool}
use Rattle.syntax.proofs.Numbers.{eq-is}
use Rattle.syntax.proofs.Starts.{Starts, head_is, head_not, begins-head}

-- ---- one kind out of a few

pub cond_true : (a b : Bool) → b ≡ true → cond a true b ≡ true
cond_true true b e = refl
cond_true false b e = e

-- a class of kinds without this one
pub not_in : (q : TokenKind → Bool) (k : TokenKind) → q k ≡ false → (l : TokenKind) → q l ≡ true → is l k ≡ false
not_in q k apart l e = elim (cases_bool (is l k)) [
  | inl y ↦ let x = at_kind k q false apart l y in absurd cc
  | inr n ↦ n
]

-- a class without the words of blocks
pub no_block : (q : TokenKind → Bool) → q Kinds.Foreach ≡ false → q Kinds.If ≡ false → (l : TokenKind) → q l ≡ true → opens_block l ≡ false
no_block q f i l e = or_from (is l Kinds.Foreach) (is l Kinds.If) (not_in q Kinds.Foreach f l e) (not_in q Kinds.If i l e)

-- a class without the words at which a body ends
pub no_end : (q : TokenKind → Bool) → q Kinds.EndForeach ≡ false → q Kinds.EndIf ≡ false → q Kinds.Elif ≡ false → q Kinds.Else ≡ false
    → (l : TokenKind) → q l ≡ true → ends_body l ≡ false
no_end q f i e s l h = or_from (is l Kinds.EndForeach) _ (not_in q Kinds.EndForeach f l h)
    (or_from (is l Kinds.EndIf) _ (not_in q Kinds.EndIf i l h)
    (or_from (is l Kinds.Elif) (is l Kinds.Else) (not_in q Kinds.Elif e l h) (not_in q Kinds.Else s l h)))

pub block_head : (ts : List Lexeme) → begins_block ts ≡ head_is opens_block ts
block_head [] = refl
block_head (t ∷ ts) = refl

pub in_body_head : (q : TokenKind → Bool) → ((l : TokenKind) → q l ≡ true → ends_body l ≡ false) → (ts : List Lexeme) → head_is q ts ≡ true
    → in_body ts ≡ true
in_body_head q goes [] h = absurd cc
in_body_head q goes (t ∷ ts) h = rw (goes t.kind h) refl

pub end_head : (q : TokenKind → Bool) → ((l : TokenKind) → q l ≡ true → ends_body l ≡ true) → (ts : List Lexeme) → head_is q ts ≡ true
    → in_body ts ≡ false
end_head q ended [] h = absurd cc
end_head q ended (t ∷ ts) h = rw (ended t.kind h) refl

pub in_line_head : (q : TokenKind → Bool) → q Kinds.Newline ≡ false → (ts : List Lexeme) → head_is q ts ≡ true → in_line ts ≡ true
in_line_head q apart [] h = absurd cc
in_line_head q apart (t ∷ ts) h = rw (not_in q Kinds.Newline apart t.kind h) refl

pub newline_head : (ts : List Lexeme) → begins Kinds.Newline ts ≡ true → ends_line ts ≡ true
newline_head [] h = absurd cc
newline_head (t ∷ ts) h = h

pub ends_in : (ts : List Lexeme) → ends_line ts ≡ true → in_line ts ≡ false
ends_in ts e = rw e refl

-- ---- a name and a sign

pub name_sign : (k : TokenKind) (ts : List Lexeme) (t : Lexeme) (m : List Lexeme) → ts ≡ t ∷ m → t.kind ≡ Kinds.Name → begins k m ≡ true
    → two_begin Kinds.Name k ts ≡ true
name_sign k ts t m e n b = rw e (and_from (is t.kind Kinds.Name) (begins k m) (eq-is t.kind Kinds.Name n) b)

then_sign : (k : TokenKind) (ts : List Lexeme) (t : Lexeme) (m : List Lexeme) → ts ≡ t ∷ m → two_begin Kinds.Name k ts ≡ true → begins k m ≡ true
then_sign k ts t m e h = (and_parts (is t.kind Kinds.Name) (begins k m) (sym (ap (two_begin Kinds.Name k) e) ∙ h)).1

no_sign : (k : TokenKind) (ts : List Lexeme) (t : Lexeme) (m : List Lexeme) → ts ≡ t ∷ m → begins k m ≡ false → two_begin Kinds.Name k ts ≡ false
no_sign k ts t m e h = ap (two_begin Kinds.Name k) e ∙ and_right (is t.kind Kinds.Name) (begins k m) h

-- A form that may begin with a name, but not with a name and this sign: where both come, none of it but the name is a
-- front of the form.
pub record AfterName {A : Type 0} (E : Form A) (Stops : List Lexeme → Type 0) (k : TokenKind) : Type 0 where
  pub name : (t : Lexeme) (us : List Lexeme) → t.kind ≡ Kinds.Name → E.front (t ∷ us) us
  pub apart : (a : A) (ts rest : List Lexeme) → E.spells a ts rest → Stops rest → two_begin Kinds.Name k ts ≡ false
  pub begun : (ts more : List Lexeme) → two_begin Kinds.Name k ts ≡ true → E.front ts more
      → (more ≡ ts) ⊎ ((t : Lexeme) × (ts ≡ t ∷ more) × (t.kind ≡ Kinds.Name))

head_other : (k : TokenKind) (p : TokenKind → Bool) → p k ≡ false → (m : List Lexeme) → head_is p m ≡ true → begins k m ≡ false
head_other k p apart m h = begins-head k m ∙ head_not p (λ l. is l k) (not_in p k apart) m h

-- a name, and then something else
pub after-name : {A : Type 0} (G : Lexeme → Form A) (Stops : List Lexeme → Type 0) (k : TokenKind) (p : TokenKind → Bool) → p k ≡ false
    → ((t : Lexeme) → Starts (G t) p) → AfterName (token Kinds.Name >>= G) Stops k
after-name G Stops k p apart starts = record {
  name = λ t us n. inl (inr (t, refl, n));
  apart = λ a ts rest h st. no_sign k ts h.0 h.1 h.2.0 (head_other k p apart h.1 ((starts h.0).spelled a h.1 rest h.3));
  begun = λ ts more two h. elim h [
    | inl w ↦ elim w [ inl same ↦ inl (sym same) | inr v ↦ inr v ]
    | inr w ↦ elim ((starts w.0).begun w.1 more w.3) [
      | inl same ↦ inr (w.0, w.2.0 ∙ ap (λ (l : List Lexeme). w.0 ∷ l) (sym same), w.2.1)
      | inr head ↦ absurd (let y = then_sign k ts w.0 w.1 w.2.0 two in let o = head_other k p apart w.1 head in cc)
    ]
  ];
}

pub after-name-or : {A : Type 0} (F G : Form A) (Stops : List Lexeme → Type 0) (k : TokenKind) → AfterName F Stops k → AfterName G Stops k
    → AfterName (F or G) Stops k
after-name-or F G Stops k f g = record {
  name = λ t us n. inl (f.name t us n);
  apart = λ a ts rest h st. elim h [ inl p ↦ f.apart a ts rest p st | inr q ↦ g.apart a ts rest q st ];
  begun = λ ts more two h. elim h [ inl p ↦ f.begun ts more two p | inr q ↦ g.begun ts more two q ];
}
