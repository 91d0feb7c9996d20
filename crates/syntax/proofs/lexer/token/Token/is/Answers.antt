-- Two kinds are one where their numbers are: the order of the kinds gives each the number that the definitions give it.
use Rattle.std.proofs.Common.{◌≡◌, ◌∙◌, ℕ, eqb, refl, ap}
use denote.Enum.Declared.{tag_of}
use Rattle.syntax.specs.contracts.lexer.token.TokenKind.{the_type}
use Rattle.syntax.specs.declared.lexer.token.TokenKind.{TokenKind}
use Rattle.syntax.specs.declared.lexer.token.TokenKind.TheVariants as Kinds
use Rattle.syntax.specs.lexer.Kinds.{number}
use Rattle.syntax.proofs.lexer.token.Token.is.Goals as goal

place_is : (k : TokenKind) → tag_of the_type k ≡ number k
place_is Kinds.Name = refl
place_is Kinds.String = refl
place_is Kinds.True = refl
place_is Kinds.False = refl
place_is Kinds.If = refl
place_is Kinds.Elif = refl
place_is Kinds.Else = refl
place_is Kinds.EndIf = refl
place_is Kinds.And = refl
place_is Kinds.Or = refl
place_is Kinds.Not = refl
place_is Kinds.In = refl
place_is Kinds.Foreach = refl
place_is Kinds.EndForeach = refl
place_is Kinds.Break = refl
place_is Kinds.Continue = refl
place_is Kinds.OpenParenthesis = refl
place_is Kinds.CloseParenthesis = refl
place_is Kinds.OpenBracket = refl
place_is Kinds.CloseBracket = refl
place_is Kinds.OpenBrace = refl
place_is Kinds.CloseBrace = refl
place_is Kinds.Comma = refl
place_is Kinds.Colon = refl
place_is Kinds.Dot = refl
place_is Kinds.Question = refl
place_is Kinds.Assign = refl
place_is Kinds.PlusAssign = refl
place_is Kinds.Equal = refl
place_is Kinds.NotEqual = refl
place_is Kinds.Less = refl
place_is Kinds.LessOrEqual = refl
place_is Kinds.Greater = refl
place_is Kinds.GreaterOrEqual = refl
place_is Kinds.Plus = refl
place_is Kinds.Minus = refl
place_is Kinds.Times = refl
place_is Kinds.Divide = refl
place_is Kinds.Remainder = refl
place_is Kinds.Newline = refl
place_is Kinds.Number = refl
place_is Kinds.RawString = refl
place_is Kinds.FormatString = refl
place_is Kinds.RawFormatString = refl

pub returns : goal.returns
returns c =
    let a = c.args.self.now.kind in
    let b = c.args.kind in
    c.eq.ensures ∙ ap (λ (n : ℕ). eqb n (tag_of the_type b)) (place_is a) ∙ ap (λ (n : ℕ). eqb (number a) n) (place_is b)
