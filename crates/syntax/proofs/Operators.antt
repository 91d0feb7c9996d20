-- How the operators of the grammar bind, and the chains that they make.
use Rattle.std.proofs.Common.{◌≡◌, ℕ, ◌+◌, ◌≤◌, ◌<◌, Bool, true, false, List, [], ◌∷◌, refl, lit≤, arith, Option}
use Rattle.syntax.specs.lexer.Lexeme.{Lexeme}
use Rattle.syntax.specs.declared.lexer.token.TokenKind.{TokenKind}
use Rattle.syntax.specs.declared.lexer.token.TokenKind.TheVariants as Kinds
use Rattle.syntax.specs.declared.tree.Operator.{Operator}
use Rattle.syntax.specs.ExpressionTree.{ExpressionTree}
use Rattle.syntax.specs.Form.{Form, give, ◌>>=◌}
use Rattle.syntax.specs.Parts.{here, here_at, stands_for, token_as, token_as_at}
use Rattle.syntax.specs.Expressions.{additive, chain, chain_tree, conjunctive, disjunctive, multiplicative, operand}
use Rattle.syntax.specs.Reading.{Reader, head_is}
use Rattle.syntax.specs.ReadingExpressions.{chain_at, operand_at, operands_at}
use Rattle.syntax.proofs.Binding.{After, binding}
use Rattle.syntax.proofs.Chains.{line-map, line-then-many}
use Rattle.syntax.proofs.Laws.{bind_at, give_at}
use Rattle.syntax.proofs.Line.{Line, line-stops, line-then}
use Rattle.syntax.proofs.Starts.{Starts, starts-bind}
use Rattle.syntax.proofs.Steps.{line-as, line-here, starts-as}

-- Operators of one rank: they bind so tightly, and nothing else does.
pub record IsRank (f : TokenKind → Option Operator) (rank : ℕ) : Type 0 where
  pub ends : (k : TokenKind) → rank < binding k → stands_for f k ≡ false
  pub binds : (k : TokenKind) → stands_for f k ≡ true → rank ≤ binding k

multiplicative_ends : (k : TokenKind) → 2 < binding k → stands_for multiplicative k ≡ false
multiplicative_ends Kinds.Times lt = absurd (omega arith)
multiplicative_ends Kinds.Divide lt = absurd (omega arith)
multiplicative_ends Kinds.Remainder lt = absurd (omega arith)
multiplicative_ends _ lt = refl

multiplicative_binds : (k : TokenKind) → stands_for multiplicative k ≡ true → 2 ≤ binding k
multiplicative_binds Kinds.Times e = lit≤ tt
multiplicative_binds Kinds.Divide e = lit≤ tt
multiplicative_binds Kinds.Remainder e = lit≤ tt
multiplicative_binds _ e = absurd cc

additive_ends : (k : TokenKind) → 3 < binding k → stands_for additive k ≡ false
additive_ends Kinds.Plus lt = absurd (omega arith)
additive_ends Kinds.Minus lt = absurd (omega arith)
additive_ends _ lt = refl

additive_binds : (k : TokenKind) → stands_for additive k ≡ true → 3 ≤ binding k
additive_binds Kinds.Plus e = lit≤ tt
additive_binds Kinds.Minus e = lit≤ tt
additive_binds _ e = absurd cc

conjunctive_ends : (k : TokenKind) → 5 < binding k → stands_for conjunctive k ≡ false
conjunctive_ends Kinds.And lt = absurd (omega arith)
conjunctive_ends _ lt = refl

conjunctive_binds : (k : TokenKind) → stands_for conjunctive k ≡ true → 5 ≤ binding k
conjunctive_binds Kinds.And e = lit≤ tt
conjunctive_binds _ e = absurd cc

disjunctive_ends : (k : TokenKind) → 6 < binding k → stands_for disjunctive k ≡ false
disjunctive_ends Kinds.Or lt = absurd (omega arith)
disjunctive_ends _ lt = refl

disjunctive_binds : (k : TokenKind) → stands_for disjunctive k ≡ true → 6 ≤ binding k
disjunctive_binds Kinds.Or e = lit≤ tt
disjunctive_binds _ e = absurd cc

pub rank-multiplicative : IsRank multiplicative 2
rank-multiplicative = record { ends = multiplicative_ends; binds = multiplicative_binds }

pub rank-additive : IsRank additive 3
rank-additive = record { ends = additive_ends; binds = additive_binds }

pub rank-conjunctive : IsRank conjunctive 5
rank-conjunctive = record { ends = conjunctive_ends; binds = conjunctive_binds }

pub rank-disjunctive : IsRank disjunctive 6
rank-disjunctive = record { ends = disjunctive_ends; binds = disjunctive_binds }

-- ---- from kinds to tokens

pub head_ends : (p : TokenKind → Bool) (rank : ℕ) → ((k : TokenKind) → rank < binding k → p k ≡ false) → (ts : List Lexeme) → After rank ts → head_is p ts ≡ false
head_ends p rank h [] st = refl
head_ends p rank h (t ∷ ts) st = h t.kind st

pub head_binds : (p : TokenKind → Bool) (rank : ℕ) → ((k : TokenKind) → p k ≡ true → rank < binding k) → (ts : List Lexeme) → head_is p ts ≡ true → After rank ts
head_binds p rank h [] e = absurd cc
head_binds p rank h (t ∷ ts) e = h t.kind e

pub after_less : (i j : ℕ) → j ≤ i → (ts : List Lexeme) → After i ts → After j ts
after_less i j le ts st = omega (arith, st)

-- ---- chains

module _ (f : TokenKind → Option Operator) (rank below : ℕ) (is_rank : IsRank f rank) (lower : below < rank) (F F' : Form ExpressionTree) (r r' : Reader ExpressionTree) (part : Line F F' r r' (After below) 1) where
  line-operand : Line (operand f F) (operand f F') (operand_at f r) (operand_at f r') (After below) 1
  unfolding operand_at
  line-operand =
      line-stops (operand f F) (operand f F') _ _ (After below) (After below) 2 1 (λ ts st. st) (omega arith)
      (line-then (token_as f) (token_as f) (λ o. F >>= λ e. give (o.0, e)) (λ o. F' >>= λ e. give (o.0, e)) (token_as_at f) (token_as_at f) (λ o. bind_at r (λ e. give_at (o.0, e))) (λ o. bind_at r' (λ e. give_at (o.0, e))) (After below) 1 1 (line-as f)
      (λ o. line-map F F' (λ e. (o.0, e)) r r' (After below) 1 part))

  starts-operand : Starts (operand f F) (stands_for f)
  starts-operand = starts-bind (token_as f) _ (stands_for f) (starts-as f)

  pub line-chain : Line (chain f F) (chain f F') (chain_at f r) (chain_at f r') (After rank) 1
  unfolding chain_at operands_at
  line-chain =
      line-stops (chain f F) (chain f F') _ _ (After rank) (After rank) (0 + 1) 1 (λ ts st. st) (omega arith)
      (line-then here here _ _ here_at here_at _ _ (After rank) 0 1 line-here
      (λ line. line-then-many (operand f F) (operand f F') (operand_at f r) (operand_at f r') (stands_for f) (After below) starts-operand line-operand F F' r r' (After below) (After rank) part
      (λ ts h. let a = head_binds (stands_for f) below (λ k e. omega (arith, is_rank.binds k e)) ts h in (a, a))
      (λ ts st. (head_ends (stands_for f) rank is_rank.ends ts st, after_less rank below (omega arith) ts st, after_less rank below (omega arith) ts st))
      (chain_tree line)))
