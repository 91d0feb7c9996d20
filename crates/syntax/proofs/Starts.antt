-- What a form begins with, and that it takes a token.
use Rattle.std.proofs.Common.{◌≡◌, ℕ, ◌+◌, ◌≤◌, Bool, true, false, List, [], ◌∷◌, length, refl, sym, ap, ◌⊎◌, inl, inr, arith}
use Rattle.syntax.specs.lexer.Lexeme.{Lexeme}
use Rattle.syntax.specs.declared.lexer.token.TokenKind.{TokenKind}
use Rattle.syntax.specs.Form.{Form, token, give, ◌>>=◌, ◌or◌, never, many, Repeats}
use Rattle.syntax.specs.lexer.Kinds.{is}
use Rattle.syntax.specs.Reading.{begins}
pub use Rattle.syntax.specs.Reading.{head_is}
use Rattle.syntax.proofs.Numbers.{eq-is}

pub record Starts {A : Type 0} (F : Form A) (p : TokenKind → Bool) : Type 0 where
  pub spelled : (a : A) (ts rest : List Lexeme) → F.spells a ts rest → head_is p ts ≡ true
  pub begun : (ts more : List Lexeme) → F.front ts more → (more ≡ ts) ⊎ (head_is p ts ≡ true)

-- as many tokens are left at most, or fewer
pub record Takes {A : Type 0} (F : Form A) (least : ℕ) : Type 0 where
  pub taken : (a : A) (ts rest : List Lexeme) → F.spells a ts rest → length rest + least ≤ length ts

pub starts-token : (k : TokenKind) → Starts (token k) (λ l. is l k)
starts-token k = record {
  spelled = λ t ts rest h. rw h.0 (eq-is t.kind k h.1);
  begun = λ ts more h. elim h [ inl same ↦ inl (sym same) | inr w ↦ inr (rw w.1 (eq-is w.0.kind k w.2)) ];
}

pub starts-bind : {A B : Type 0} (F : Form A) (G : A → Form B) (p : TokenKind → Bool) → Starts F p → Starts (F >>= G) p
starts-bind F G p s = record {
  spelled = λ b ts rest h. s.spelled h.0 ts h.1 h.2;
  begun = λ ts more h. elim h [ inl f ↦ s.begun ts more f | inr w ↦ inr (s.spelled w.0 ts w.1 w.2) ];
}

pub starts-or : {A : Type 0} (F G : Form A) (p q r : TokenKind → Bool) → Starts F p → Starts G q → ((k : TokenKind) → p k ≡ true → r k ≡ true) → ((k : TokenKind) → q k ≡ true → r k ≡ true) → Starts (F or G) r
starts-or F G p q r s t pr qr = record {
  spelled = λ a ts rest h. elim h [ inl f ↦ weaker p ts pr (s.spelled a ts rest f) | inr g ↦ weaker q ts qr (t.spelled a ts rest g) ];
  begun = λ ts more h. elim h [
    | inl f ↦ elim (s.begun ts more f) [ inl e ↦ inl e | inr e ↦ inr (weaker p ts pr e) ]
    | inr g ↦ elim (t.begun ts more g) [ inl e ↦ inl e | inr e ↦ inr (weaker q ts qr e) ]
  ];
}
  where
    weaker : (p : TokenKind → Bool) (ts : List Lexeme) → ((k : TokenKind) → p k ≡ true → r k ≡ true) → head_is p ts ≡ true → head_is r ts ≡ true
    weaker p [] f e = absurd cc
    weaker p (t ∷ ts) f e = f t.kind e

pub starts-never : {A : Type 0} (p : TokenKind → Bool) → Starts (never {A = A}) p
starts-never p = record { spelled = λ a ts rest h. absurd h; begun = λ ts more h. inl (sym h) }

-- where the head is one of these, it is none of those
pub head_not : (p q : TokenKind → Bool) → ((k : TokenKind) → p k ≡ true → q k ≡ false) → (ts : List Lexeme) → head_is p ts ≡ true → head_is q ts ≡ false
head_not p q f [] e = refl
head_not p q f (t ∷ ts) e = f t.kind e

pub begins-head : (k : TokenKind) (ts : List Lexeme) → begins k ts ≡ head_is (λ l. is l k) ts
begins-head k [] = refl
begins-head k (t ∷ ts) = refl

pub takes-token : (k : TokenKind) → Takes (token k) 1
takes-token k = record { taken = λ t ts rest h. omega (arith, ap length h.0) }

pub takes-give : {A : Type 0} (a : A) → Takes (give a) 0
takes-give a = record { taken = λ x ts rest h. omega (arith, ap length h.1) }

pub takes-bind : {A B : Type 0} (F : Form A) (G : A → Form B) (m n : ℕ) → Takes F m → ((a : A) → Takes (G a) n) → Takes (F >>= G) (m + n)
takes-bind F G m n f g = record { taken = λ b ts rest h. omega (arith, f.taken h.0 ts h.1 h.2, (g h.0).taken b h.1 rest h.3) }

pub takes-or : {A : Type 0} (F G : Form A) (n : ℕ) → Takes F n → Takes G n → Takes (F or G) n
takes-or F G n f g = record { taken = λ a ts rest h. elim h [ inl p ↦ f.taken a ts rest p | inr q ↦ g.taken a ts rest q ] }

pub takes-less : {A : Type 0} (F : Form A) (m n : ℕ) → n ≤ m → Takes F m → Takes F n
takes-less F m n le f = record { taken = λ a ts rest h. omega (arith, f.taken a ts rest h) }

pub takes-never : {A : Type 0} (n : ℕ) → Takes (never {A = A}) n
takes-never n = record { taken = λ a ts rest h. absurd h }

repeats_takes : {A : Type 0} (F : Form A) → Takes F 0 → (xs : List A) (ts rest : List Lexeme) → Repeats F xs ts rest → length rest ≤ length ts
repeats_takes F f [] ts rest h = omega (arith, ap length h)
repeats_takes F f (x ∷ xs) ts rest h = omega (arith, f.taken x ts h.0 h.1, repeats_takes F f xs h.0 rest h.2)

pub takes-many : {A : Type 0} (F : Form A) → Takes F 0 → Takes (many F) 0
takes-many F f = record { taken = λ xs ts rest h. omega (arith, repeats_takes F f xs ts rest h) }
