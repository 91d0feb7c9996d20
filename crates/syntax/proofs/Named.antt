-- An expression as a statement, beside statements that begin with a name and a sign.
use Rattle.std.proofs.Common.{Option, None, zero, suc, ◌≡◌, ℕ, ◌≤◌, ◌<◌, Bool, true, false, List, [], ◌∷◌, ◌++◌, length, Result, Ok, refl}
use Rattle.std.proofs.Common.{sym, ap, subst, ◌∙◌, ◌⊎◌, inl, inr, arith, length-append}
use Rattle.std.proofs.lemmas.Bool.{and_parts}
use Rattle.syntax.specs.lexer.Lexeme.{Lexeme}
use Rattle.syntax.specs.lexer.Kinds.{is}
use Rattle.syntax.specs.declared.lexer.token.TokenKind.{TokenKind}
use Rattle.syntax.specs.declared.lexer.token.TokenKind.TheVariants as Kinds
use Rattle.syntax.specs.declared.stop.ParseStop.{ParseStop}
use Rattle.syntax.specs.ExpressionTree.{ExpressionTree, NameTree}
use Rattle.syntax.specs.Expressions.{additive, chain, ternary, comparison, conjunction, conjunctive, disjunctive, expr, multiplicative}
use Rattle.syntax.specs.Expressions.{product, unary, unary_in}
use Rattle.syntax.specs.Form.{Form}
use Rattle.syntax.specs.Parts.{Inner, Closed, Inside, first_line}
use Rattle.syntax.specs.declared.tree.Operator.{Operator}
use Rattle.syntax.specs.Reading.{Reader, begins, two_begin}
use Rattle.syntax.proofs.Binding.{AfterExpression, after_kind, binding}
use Rattle.syntax.proofs.Ends.{IsEnd}
use Rattle.syntax.proofs.Laws.{cases_bool, left_of}
use Rattle.syntax.proofs.Line.{Line}
use Rattle.syntax.proofs.Numbers.{is-true}

-- an end of t ∷ us that is at least as long as us
end_of_two : (t : Lexeme) (us more : List Lexeme) → IsEnd more (t ∷ us) → length us ≤ length more → (more ≡ t ∷ us) ⊎ (more ≡ us)
end_of_two t us more p le = go p.before p.parts
  where
    tail_same : (t s : Lexeme) (us vs : List Lexeme) → t ∷ us ≡ s ∷ vs → us ≡ vs
    tail_same t s us vs e = cc

    go : (before : List Lexeme) → t ∷ us ≡ before ++ more → (more ≡ t ∷ us) ⊎ (more ≡ us)
    go [] e = inl (sym e)
    go (s ∷ []) e = inr (sym (tail_same t s us more e))
    go (s ∷ u ∷ vs) e = absurd (omega (arith, ap length (tail_same t s us (u ∷ vs ++ more) e), length-append vs more))

-- a name alone is a spelling, and an expression ends before the sign
module _ {A : Type 0} {F F' : Form A} {r r' : Reader A} {i : ℕ} (tree : Lexeme → A) (named : (t : Lexeme) (us : List Lexeme)
    → t.kind ≡ Kinds.Name → F.spells (tree t) (t ∷ us) us)
    (k : TokenKind) (ends : 7 < binding k) (f : Line F F' r r' AfterExpression i) where
  sign_comes : (t : Lexeme) (us : List Lexeme) → two_begin Kinds.Name k (t ∷ us) ≡ true → (t.kind ≡ Kinds.Name) × (begins k us ≡ true)
  sign_comes t us two = let b = and_parts (is t.kind Kinds.Name) (begins k us) two in (is-true t.kind Kinds.Name b.0, b.1)

  -- before the sign the name is read, and nothing more
  name_read : (t : Lexeme) (us : List Lexeme) → two_begin Kinds.Name k (t ∷ us) ≡ true → r (t ∷ us) ≡ Ok (tree t, us)
  name_read t us two = let s = sign_comes t us two in f.reads.complete (tree t) (t ∷ us) us (named t us s.0) (after_kind k 7 us ends s.1)

  same_rest : (a b : A) (us vs : List Lexeme) → ◌≡◌ {A = Result (A × List Lexeme) ParseStop} (Ok (a, us)) (Ok (b, vs)) → us ≡ vs
  same_rest a b us vs h = let p : ◌≡◌ {A = A × List Lexeme} (a, us) (b, vs) = cc in ap (λ (x : A × List Lexeme). x.1) p

  -- a whole expression that is followed by no sign does not begin so
  pub no_sign_in : (a : A) (ts rest : List Lexeme) → F.spells a ts rest → AfterExpression rest → begins k rest ≡ false
      → two_begin Kinds.Name k ts ≡ false
  no_sign_in a [] rest h st other = refl
  no_sign_in a (t ∷ us) rest h st other = elim (cases_bool (two_begin Kinds.Name k (t ∷ us))) [
    | inl two ↦
        let same = same_rest (tree t) a us rest (sym (name_read t us two) ∙ f.reads.complete a (t ∷ us) rest h st) in
        let sign : begins k rest ≡ true = subst (λ (l : List Lexeme). begins k l ≡ true) same (sign_comes t us two).1 in
        absurd cc
    | inr no_two ↦ no_two
  ]

  -- before the sign nothing but the name is a front
  pub name_front : (ts more : List Lexeme) → two_begin Kinds.Name k ts ≡ true → F.front ts more
      → (more ≡ ts) ⊎ ((t : Lexeme) × (ts ≡ t ∷ more) × (t.kind ≡ Kinds.Name))
  name_front [] more two h = absurd cc
  name_front (t ∷ us) more two h =
      elim (end_of_two t us more (f.ends.begun (t ∷ us) more h)
      (omega (arith, f.reads.reaches (t ∷ us) more h, ap left_of (name_read t us two)))) [
        | inl same ↦ inl same
        | inr same ↦ inr (t, ap (λ (l : List Lexeme). t ∷ l) (sym same), (sign_comes t us two).0)
      ]

-- ---- a name is an expression

chain_one : (f : TokenKind → Option Operator) (part : Form ExpressionTree) (e : ExpressionTree) (ts rest : List Lexeme) → part.spells e ts rest → (chain f part).spells e ts rest
chain_one f part e ts rest h = (first_line ts, ts, (refl, refl), (e, rest, h, ([], rest, refl, (refl, refl))))

comparison_one : (unary : Form ExpressionTree) (e : ExpressionTree) (ts rest : List Lexeme) → unary.spells e ts rest → (comparison unary).spells e ts rest
comparison_one unary e ts rest h =
    (first_line ts, ts, (refl, refl), (e, rest, chain_one additive (product unary) e ts rest (chain_one multiplicative unary e ts rest h), (None, rest, inr (refl, refl), (refl, refl))))

ternary_one : (unary : Bool → Form ExpressionTree) (e : ExpressionTree) (ts rest : List Lexeme) → (unary true).spells e ts rest → (ternary unary true).spells e ts rest
ternary_one unary e ts rest h =
    let test = chain_one disjunctive (conjunction (unary true)) e ts rest (chain_one conjunctive (comparison (unary true)) e ts rest (comparison_one (unary true) e ts rest h)) in
    (first_line ts, ts, (refl, refl), (e, rest, test, (None, rest, inr (refl, refl), (refl, refl))))

-- no operator stands before it, nothing is asked of it, and it is not called
in_name : (u : Inner) (b : Bool) (t : Lexeme) (us : List Lexeme) → t.kind ≡ Kinds.Name → (unary_in u b).spells (NameTree t.text t.line) (t ∷ us) us
in_name u b t us k =
    inr (inr (t.line, t ∷ us, (refl, refl), (NameTree t.text t.line, us, inr (inl (t, us, (refl, k), (refl, refl))), ([], us, refl, (refl, refl)))))

unary_name : (n : ℕ) (b : Bool) (t : Lexeme) (us : List Lexeme) → t.kind ≡ Kinds.Name → (unary n b).spells (NameTree t.text t.line) (t ∷ us) us
unfolding unary
unary_name zero b t us k = in_name Closed b t us k
unary_name (suc n) b t us k = in_name (Inside (unary n)) b t us k

pub named_expr : (n : ℕ) (t : Lexeme) (us : List Lexeme) → t.kind ≡ Kinds.Name → (expr n).spells (NameTree t.text t.line) (t ∷ us) us
unfolding expr
named_expr n t us k = ternary_one (unary n) (NameTree t.text t.line) (t ∷ us) us (unary_name n true t us k)
