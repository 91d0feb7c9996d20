-- An expression of one token, with a token behind it that goes on with none.
use Rattle.std.proofs.Common.{◌&&◌, ◌≡◌, ℕ, ◌+◌, ◌-◌, ◌<◌, ◌≤◌, Bool, Option, Some, None, true, false, List, [], ◌∷◌, length, get_or, take}
use Rattle.std.proofs.Common.{drop, Ok, Err, refl, sym, ap, ◌∙◌, arith, inl, inr}
use Rattle.std.specs.Option.{option_map}
use Rattle.syntax.specs.declared.lexer.token.TokenKind.{TokenKind}
use Rattle.syntax.specs.declared.lexer.token.TokenKind.TheVariants as Kinds
use Rattle.syntax.specs.declared.lexer.token.Token.{Token}
use Rattle.syntax.specs.lexer.Kinds.{is}
use Rattle.syntax.specs.lexer.Lexeme.{Lexeme, lexeme_of, lexemes}
use Rattle.syntax.specs.declared.stop.ParseStop.TheVariants.{Unexpected}
use Rattle.syntax.specs.declared.tree.Expression.{Expression}
use Rattle.syntax.specs.declared.tree.Operator.{Operator}
use Rattle.syntax.specs.Expressions.{additive, conjunctive, disjunctive, literal_of, multiplicative}
use Rattle.syntax.specs.ExpressionTree.{ExpressionTree, LiteralTree, NameTree, expression_of}
use Rattle.syntax.specs.Parts.{stands_for, token_as_at}
use Rattle.syntax.specs.Reading.{Reader, begins, head_is, or_at, token_at}
use Rattle.syntax.specs.ReadingExpressions.{asks, atom_at, base_at, chain_at, compares, conjunction_at, disjunction_at, ends_expression}
use Rattle.syntax.specs.ReadingExpressions.{inner_at, links_on, literal_at, name_at, prefix_of, product_at, single_at, single_of, sum_at}
use Rattle.syntax.specs.ReadingExpressions.{ternary_at, unary_at}
use Rattle.syntax.proofs.ComparisonTails.{comparison_alone}
use Rattle.syntax.proofs.ExpressionTails.{chain_alone, postfix_alone, some_none, some_same, ternary_alone, unary_postfix}
use Rattle.syntax.proofs.Laws.{cases_bool}
use Rattle.syntax.proofs.Starts.{begins-head}
use Rattle.syntax.proofs.Steps.{cases_option}
use Rattle.syntax.proofs.Tails.{fails_at, length_lexemes, rest_is}

-- ---- what goes on with no expression

abbrev Answers : Type 0
Answers = Bool × Bool × Bool × Bool × Bool × Bool

-- what p says of each kind that ends an expression
abbrev of_ends : (TokenKind → Bool) → Answers
of_ends p = (p Kinds.Comma, p Kinds.CloseParenthesis, p Kinds.CloseBracket, p Kinds.CloseBrace, p Kinds.Colon, p Kinds.Newline)

abbrev Silent : (TokenKind → Bool) → Type 0
Silent p = of_ends p ≡ of_ends (λ k. false)

silent_kind : (p : TokenKind → Bool) → Silent p → (k : TokenKind) → ends_expression k ≡ true → p k ≡ false
silent_kind p s Kinds.Comma e = ap (λ (x : Answers). x.0) s
silent_kind p s Kinds.CloseParenthesis e = ap (λ (x : Answers). x.1) s
silent_kind p s Kinds.CloseBracket e = ap (λ (x : Answers). x.2) s
silent_kind p s Kinds.CloseBrace e = ap (λ (x : Answers). x.3) s
silent_kind p s Kinds.Colon e = ap (λ (x : Answers). x.4) s
silent_kind p s Kinds.Newline e = ap (λ (x : Answers). x.5) s
silent_kind p s _ e = absurd cc

silent : (p : TokenKind → Bool) → Silent p → (ts : List Lexeme) → head_is ends_expression ts ≡ true → head_is p ts ≡ false
silent p s [] e = refl
silent p s (t ∷ ts) e = silent_kind p s t.kind e

-- ---- what a token is by itself

module _ (n : ℕ) (b : Bool) (text : List ℕ) (line : ℕ) (rest : List Lexeme) (no_call : begins Kinds.OpenParenthesis rest ≡ false)
    (e : ExpressionTree) where
  abbrev of_kind : TokenKind → Lexeme
  of_kind k = record { kind = k; text = text; line = line }

  -- it is read by itself, and it is no prefix operator
  abbrev Single : TokenKind → Type 0
  Single k = (base_at (inner_at n) b (of_kind k ∷ rest) ≡ Ok (e, rest)) × (prefix_of (of_kind k ∷ rest) ≡ None)

  reads_as : (k : TokenKind) (x : ExpressionTree) → base_at (inner_at n) b (of_kind k ∷ rest) ≡ Ok (x, rest)
      → ◌≡◌ {A = Option ExpressionTree} (Some x) (Some e) → base_at (inner_at n) b (of_kind k ∷ rest) ≡ Ok (e, rest)
  reads_as k x h same = h ∙ ap (λ (y : ExpressionTree). Ok (y, rest)) (some_same x e same)

  single_kind : (k : TokenKind) → single_of (of_kind k) ≡ Some e → Single k
  unfolding base_at or_at atom_at name_at literal_at token_at token_as_at
  single_kind Kinds.Name s = (reads_as Kinds.Name (NameTree text line) (rw no_call refl) s, refl)
  single_kind Kinds.True s = (reads_as Kinds.True _ refl s, refl)
  single_kind Kinds.False s = (reads_as Kinds.False _ refl s, refl)
  single_kind Kinds.Number s = (reads_as Kinds.Number _ refl s, refl)
  single_kind Kinds.String s = (reads_as Kinds.String _ refl s, refl)
  single_kind Kinds.RawString s = (reads_as Kinds.RawString _ refl s, refl)
  single_kind Kinds.FormatString s = (reads_as Kinds.FormatString _ refl s, refl)
  single_kind Kinds.RawFormatString s = (reads_as Kinds.RawFormatString _ refl s, refl)
  single_kind _ s = absurd cc

-- ---- every level of the grammar reads it alone

module _ (n : ℕ) (b : Bool) (t : Lexeme) (rest : List Lexeme) (e : ExpressionTree) (single : single_of t ≡ Some e)
    (ending : head_is ends_expression rest ≡ true) where
  abbrev Alone : Reader ExpressionTree → Type 0
  Alone r = r (t ∷ rest) ≡ Ok (e, rest)

  no_call : begins Kinds.OpenParenthesis rest ≡ false
  no_call = begins-head Kinds.OpenParenthesis rest ∙ silent (λ k. is k Kinds.OpenParenthesis) refl rest ending

  no_question : begins Kinds.Question rest ≡ false
  no_question = begins-head Kinds.Question rest ∙ silent asks refl rest ending

  unary_alone : Alone (unary_at n b)
  unary_alone =
      let w = single_kind n b t.text t.line rest no_call e t.kind single in
      unary_postfix n b (t ∷ rest) w.1 ∙ postfix_alone (inner_at n) b (t ∷ rest) e rest w.0 (silent links_on refl rest ending)

  rank_alone : (f : TokenKind → Option Operator) → Silent (stands_for f) → (r : Reader ExpressionTree) → Alone r → Alone (chain_at f r)
  rank_alone f s r h = chain_alone f r (t ∷ rest) e rest h (silent (stands_for f) s rest ending)

  sum_alone : Alone (sum_at (unary_at n b))
  unfolding sum_at product_at
  sum_alone = rank_alone additive refl _ (rank_alone multiplicative refl _ unary_alone)

  disjunction_alone : Alone (disjunction_at (unary_at n b))
  unfolding disjunction_at conjunction_at
  disjunction_alone = rank_alone disjunctive refl _ (rank_alone conjunctive refl _
      (comparison_alone (unary_at n b) (t ∷ rest) e rest sum_alone (silent compares refl rest ending)))

  asked_by_none : (b && begins Kinds.Question rest) ≡ false
  asked_by_none = elim b as (λ z. (z && begins Kinds.Question rest) ≡ false) [ true ↦ no_question | false ↦ refl ]

  single_alone : ternary_at (unary_at n) b (t ∷ rest) ≡ Ok (e, rest)
  single_alone = ternary_alone (unary_at n) b (t ∷ rest) e rest disjunction_alone asked_by_none

-- ---- a name or a literal, with anything behind it

single_read : (t : Lexeme) (ts : List Lexeme) (e : ExpressionTree) → single_of t ≡ Some e → single_at (t ∷ ts) ≡ Ok (e, ts)
unfolding single_at or_at name_at literal_at token_at token_as_at
single_read t ts e s = elim (cases_bool (is t.kind Kinds.Name)) [
  | inl y ↦
      let same : NameTree t.text t.line ≡ e = some_same (NameTree t.text t.line) e (sym (rw y refl) ∙ s) in
      rw y (ap (λ (x : ExpressionTree). Ok (x, ts)) same)
  | inr m ↦ elim (cases_option (literal_of t.kind)) [
    | inl none ↦ absurd (some_none e (sym s ∙ rw (m, none) refl))
    | inr w ↦
        let same : LiteralTree w.0 t.text t.line ≡ e = some_same (LiteralTree w.0 t.text t.line) e (sym (rw (m, w.1) refl) ∙ s) in
        rw (m, w.1) (ap (λ (x : ExpressionTree). Ok (x, ts)) same)
  ]
]

single_refused : (t : Lexeme) (ts : List Lexeme) → single_of t ≡ None → single_at (t ∷ ts) ≡ Err (Unexpected (length ts + 1))
unfolding single_at or_at literal_at token_as_at
single_refused t ts s = elim (cases_bool (is t.kind Kinds.Name)) [
  | inl y ↦ absurd (some_none (NameTree t.text t.line) (sym (rw y refl) ∙ s))
  | inr m ↦ elim (cases_option (literal_of t.kind)) [
    | inl none ↦ rw (m, none) refl
    | inr w ↦ absurd (some_none (LiteralTree w.0 t.text t.line) (sym (rw (m, w.1) refl) ∙ s))
  ]
]

-- ---- of the tokens of the code

pub single_end : (ts : List Token) → length ts < 1 → single_at (lexemes ts) ≡ Err (Unexpected (length ts))
unfolding single_at or_at literal_at token_as_at
single_end [] lt = refl
single_end (t ∷ ts) lt = absurd (omega arith)

pub single_missing : (ts : List Token) (d : Token) (o : Option Expression) → 1 ≤ length ts
    → option_map expression_of o ≡ single_of (lexeme_of (get_or ts 0 d)) → o ≡ None → single_at (lexemes ts) ≡ Err (Unexpected (length ts))
single_missing [] d o le s is_none = absurd (omega arith)
single_missing (t ∷ ts) d o le s is_none = single_refused (lexeme_of t) (lexemes ts) (sym s ∙ ap (option_map expression_of) is_none)
    ∙ ap (λ (n : ℕ). Err (Unexpected n)) (let q : length (lexemes ts) + 1 ≡ length (t ∷ ts) = omega (arith, length_lexemes ts) in q)

pub single_found : (ts : List Token) (d : Token) (o : Option Expression) (x : Expression) → 1 ≤ length ts
    → option_map expression_of o ≡ single_of (lexeme_of (get_or ts 0 d)) → o ≡ Some x
    → single_at (lexemes ts) ≡ Ok (expression_of x, lexemes (take (length ts - 1) (drop 1 ts)))
single_found [] d o x le s is_x = absurd (omega arith)
single_found (t ∷ ts) d o x le s is_x = rw (ap lexemes (sym (rest_is t ts)))
    (single_read (lexeme_of t) (lexemes ts) (expression_of x) (sym s ∙ ap (option_map expression_of) is_x))

pub token_alone : (n : ℕ) (b : Bool) (ts : List Token) (d : Token) (o : Option Expression) (x : Expression) → 1 ≤ length ts
    → option_map expression_of o ≡ single_of (lexeme_of (get_or ts 0 d)) → o ≡ Some x
    → head_is ends_expression (lexemes (take (length ts - 1) (drop 1 ts))) ≡ true
    → ternary_at (unary_at n) b (lexemes ts) ≡ Ok (expression_of x, lexemes (take (length ts - 1) (drop 1 ts)))
token_alone n b [] d o x le s is_x ending = absurd (omega arith)
token_alone n b (t ∷ ts) d o x le s is_x ending =
    let same : lexemes (take (length (t ∷ ts) - 1) ts) ≡ lexemes ts = ap lexemes (sym (rest_is t ts)) in
    let single : single_of (lexeme_of t) ≡ Some (expression_of x) = sym s ∙ ap (option_map expression_of) is_x in
    rw same (single_alone n b (lexeme_of t) (lexemes ts) (expression_of x) single (ap (head_is ends_expression) (sym same) ∙ ending))

-- ---- the lemmas of one function

pub ruleset single_cases = (single_end, single_missing, single_found, fails_at)
