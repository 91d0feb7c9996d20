-- How tightly a token binds what stands before it, and what ends an expression.
use Rattle.std.proofs.Common.{◌≡◌, ℕ, ◌<◌, true, List, [], ◌∷◌, sym, subst}
use Rattle.syntax.specs.lexer.Lexeme.{Lexeme}
use Rattle.syntax.specs.declared.lexer.token.TokenKind.{TokenKind}
use Rattle.syntax.specs.declared.lexer.token.TokenKind.TheVariants as Kinds
use Rattle.syntax.specs.Reading.{begins}
use Rattle.syntax.proofs.Numbers.{is-true}

-- 0 the arguments of a call, 1 what is asked of a value, 2 to 6 the operators from `*` to `or`, 7 the question mark, 8 what ends an expression
abbrev pub binding : TokenKind → ℕ
binding Kinds.Dot = 1
binding Kinds.OpenBracket = 1
binding Kinds.OpenParenthesis = 0
binding Kinds.Times = 2
binding Kinds.Divide = 2
binding Kinds.Remainder = 2
binding Kinds.Plus = 3
binding Kinds.Minus = 3
binding Kinds.Equal = 4
binding Kinds.NotEqual = 4
binding Kinds.Less = 4
binding Kinds.LessOrEqual = 4
binding Kinds.Greater = 4
binding Kinds.GreaterOrEqual = 4
binding Kinds.In = 4
binding Kinds.Not = 4
binding Kinds.And = 5
binding Kinds.Or = 6
binding Kinds.Question = 7
binding _ = 8

abbrev pub head_binding : List Lexeme → ℕ
head_binding [] = 8
head_binding (t ∷ ts) = binding t.kind

-- nothing comes that binds so tightly
abbrev pub After : ℕ → List Lexeme → Type 0
After rank ts = rank < head_binding ts

-- what may stand behind an expression
abbrev pub AfterExpression : List Lexeme → Type 0
AfterExpression ts = After 7 ts

-- after a token of a kind that binds less
pub after_kind : (k : TokenKind) (rank : ℕ) (ts : List Lexeme) → rank < binding k → begins k ts ≡ true → After rank ts
after_kind k rank [] lt b = absurd cc
after_kind k rank (t ∷ ts) lt b = subst (λ (l : TokenKind). rank < binding l) (sym (is-true t.kind k b)) lt
