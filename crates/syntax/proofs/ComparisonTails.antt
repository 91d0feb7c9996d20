-- What reading comparisons answers, step by step.
use Rattle.std.proofs.Common.{◌≡◌, ◌∙◌, true, false, List, [], ◌∷◌, Result, Ok, Err, refl, sym, ap}
use Rattle.syntax.specs.lexer.Lexeme.{Lexeme}
use Rattle.syntax.specs.declared.stop.ParseStop.{ParseStop}
use Rattle.syntax.specs.declared.stop.ReadError.{ReadError}
use Rattle.syntax.specs.declared.stop.ReadError.TheVariants as errors
use Rattle.syntax.specs.declared.tree.Operator.{Operator}
use Rattle.syntax.specs.ExpressionTree.{ChainTree, ExpressionTree, OperandTree, operands}
use Rattle.syntax.specs.Parts.{first_line}
use Rattle.syntax.specs.Reading.{Reader, ◌>>=◌, Fails, head_is, optional_at, or_at}
use Rattle.syntax.specs.ReadingExpressions.{compared_at, compares, comparison_at, comparison_operator_at, one_compared_at, sum_at}

-- ---- a comparison and what stands behind it

module _ (part : Reader ExpressionTree) (ts : List Lexeme) where
  pub operator_fails : (d : ReadError) → Fails d (comparison_operator_at ts) → Fails d (one_compared_at part ts)
  unfolding compared_at one_compared_at
  operator_fails errors.Memory g = tt
  operator_fails (errors.Stop f) g = rw g refl

  module _ (o : Operator) (after : List Lexeme) (g : comparison_operator_at ts ≡ Ok (o, after)) where
    pub compared_fails : (d : ReadError) → Fails d (part after) → Fails d (one_compared_at part ts)
    unfolding compared_at one_compared_at
    compared_fails errors.Memory l = tt
    compared_fails (errors.Stop f) l = rw (g, l) refl

    pub compared_reads : (v : ExpressionTree) (rest : List Lexeme) → part after ≡ Ok (v, rest) → one_compared_at part ts ≡ Ok ((o, v) ∷ [], rest)
    unfolding compared_at one_compared_at
    compared_reads v rest l = rw (g, l) refl

-- what the one comparison is
one_of : (read : Result (OperandTree × List Lexeme) ParseStop) (os : List OperandTree) (rest : List Lexeme)
    → ◌>>=◌ {B = List OperandTree × List Lexeme} read (λ o. Ok (o.0 ∷ [], o.1)) ≡ Ok (os, rest) → (o : OperandTree) × (read ≡ Ok (o, rest)) × (os ≡ o ∷ [])
one_of (Ok x) os rest e =
    let same : ◌≡◌ {A = Result (List OperandTree × List Lexeme) ParseStop} (Ok (x.0 ∷ [], x.1)) (Ok (os, rest)) = e in
    let pair : ◌≡◌ {A = List OperandTree × List Lexeme} (x.0 ∷ [], x.1) (os, rest) = cc in
    (x.0, ap (λ (q : List OperandTree × List Lexeme). Ok (x.0, q.1)) pair, sym (ap (λ (q : List OperandTree × List Lexeme). q.0) pair))
one_of (Err f) os rest e = absurd cc

one_stops : (read : Result (OperandTree × List Lexeme) ParseStop) (f : ParseStop)
    → ◌>>=◌ {B = List OperandTree × List Lexeme} read (λ o. Ok (o.0 ∷ [], o.1)) ≡ Err f → read ≡ Err f
one_stops (Ok x) f e = absurd cc
one_stops (Err g) f e =
    let same : ◌≡◌ {A = Result (List OperandTree × List Lexeme) ParseStop} (Err g) (Err f) = e in
    let stop : g ≡ f = cc in ap (λ (h : ParseStop). Err h) stop

-- ---- comparisons

module _ (u : Reader ExpressionTree) (ts : List Lexeme) where
  pub comparison_fails : (d : ReadError) → Fails d (sum_at u ts) → Fails d (comparison_at u ts)
  unfolding comparison_at
  comparison_fails errors.Memory h = tt
  comparison_fails (errors.Stop f) h = rw h refl

  module _ (a : ExpressionTree) (mid : List Lexeme) (h : sum_at u ts ≡ Ok (a, mid)) where
    pub comparison_alone : head_is compares mid ≡ false → comparison_at u ts ≡ Ok (a, mid)
    unfolding comparison_at optional_at or_at
    comparison_alone e = rw (h, e) refl

    module _ (e : head_is compares mid ≡ true) where
      pub comparison_stops : (d : ReadError) → Fails d (one_compared_at (sum_at u) mid) → Fails d (comparison_at u ts)
      unfolding comparison_at one_compared_at optional_at or_at
      comparison_stops errors.Memory g = tt
      comparison_stops (errors.Stop f) g = rw (h, e, one_stops (compared_at (sum_at u) mid) f g) refl

      one_reads : (o : OperandTree) (rest : List Lexeme) → compared_at (sum_at u) mid ≡ Ok (o, rest)
          → comparison_at u ts ≡ Ok (ChainTree a (operands (o ∷ [])) (first_line ts), rest)
      unfolding comparison_at optional_at or_at
      one_reads o rest g = rw (h, e, g) refl

      pub comparison_reads : (os : List OperandTree) (rest : List Lexeme) → one_compared_at (sum_at u) mid ≡ Ok (os, rest)
          → comparison_at u ts ≡ Ok (ChainTree a (operands os) (first_line ts), rest)
      unfolding one_compared_at
      comparison_reads os rest g =
          let w = one_of (compared_at (sum_at u) mid) os rest g in
          one_reads w.0 rest w.1 ∙ ap (λ (l : List OperandTree). Ok (ChainTree a (operands l) (first_line ts), rest)) (sym w.2)
