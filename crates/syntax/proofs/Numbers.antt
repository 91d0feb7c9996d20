-- The test of a kind says what it seems to.
use Rattle.std.proofs.Common.{◌≡◌, ℕ, true, refl, ap, sym, ◌∙◌, nat_eq}
use Rattle.std.specs.Prelude.{if◌then◌else◌}
use Rattle.std.proofs.lemmas.Bool.{eq-eqb, eqb-true}
use Rattle.syntax.specs.declared.lexer.token.TokenKind.{TokenKind}
use Rattle.syntax.specs.declared.lexer.token.TokenKind.TheVariants as Kinds
use Rattle.syntax.specs.lexer.Kinds.{number, is}

abbrev numbered : ℕ → TokenKind
numbered n =
    if nat_eq n 0 then Kinds.Name
    else (if nat_eq n 1 then Kinds.String
    else (if nat_eq n 2 then Kinds.True
    else (if nat_eq n 3 then Kinds.False
    else (if nat_eq n 4 then Kinds.If
    else (if nat_eq n 5 then Kinds.Elif
    else (if nat_eq n 6 then Kinds.Else
    else (if nat_eq n 7 then Kinds.EndIf
    else (if nat_eq n 8 then Kinds.And
    else (if nat_eq n 9 then Kinds.Or
    else (if nat_eq n 10 then Kinds.Not
    else (if nat_eq n 11 then Kinds.In
    else (if nat_eq n 12 then Kinds.Foreach
    else (if nat_eq n 13 then Kinds.EndForeach
    else (if nat_eq n 14 then Kinds.Break
    else (if nat_eq n 15 then Kinds.Continue
    else (if nat_eq n 16 then Kinds.OpenParenthesis
    else (if nat_eq n 17 then Kinds.CloseParenthesis
    else (if nat_eq n 18 then Kinds.OpenBracket
    else (if nat_eq n 19 then Kinds.CloseBracket
    else (if nat_eq n 20 then Kinds.OpenBrace
    else (if nat_eq n 21 then Kinds.CloseBrace
    else (if nat_eq n 22 then Kinds.Comma
    else (if nat_eq n 23 then Kinds.Colon
    else (if nat_eq n 24 then Kinds.Dot
    else (if nat_eq n 25 then Kinds.Question
    else (if nat_eq n 26 then Kinds.Assign
    else (if nat_eq n 27 then Kinds.PlusAssign
    else (if nat_eq n 28 then Kinds.Equal
    else (if nat_eq n 29 then Kinds.NotEqual
    else (if nat_eq n 30 then Kinds.Less
    else (if nat_eq n 31 then Kinds.LessOrEqual
    else (if nat_eq n 32 then Kinds.Greater
    else (if nat_eq n 33 then Kinds.GreaterOrEqual
    else (if nat_eq n 34 then Kinds.Plus
    else (if nat_eq n 35 then Kinds.Minus
    else (if nat_eq n 36 then Kinds.Times
    else (if nat_eq n 37 then Kinds.Divide
    else (if nat_eq n 38 then Kinds.Remainder
    else (if nat_eq n 39 then Kinds.Newline
    else (if nat_eq n 40 then Kinds.Number
    else (if nat_eq n 41 then Kinds.RawString
    else (if nat_eq n 42 then Kinds.FormatString
    else Kinds.RawFormatString))))))))))))))))))))))))))))))))))))))))))

numbered-number : (k : TokenKind) → numbered (number k) ≡ k
numbered-number Kinds.Name = refl
numbered-number Kinds.String = refl
numbered-number Kinds.True = refl
numbered-number Kinds.False = refl
numbered-number Kinds.If = refl
numbered-number Kinds.Elif = refl
numbered-number Kinds.Else = refl
numbered-number Kinds.EndIf = refl
numbered-number Kinds.And = refl
numbered-number Kinds.Or = refl
numbered-number Kinds.Not = refl
numbered-number Kinds.In = refl
numbered-number Kinds.Foreach = refl
numbered-number Kinds.EndForeach = refl
numbered-number Kinds.Break = refl
numbered-number Kinds.Continue = refl
numbered-number Kinds.OpenParenthesis = refl
numbered-number Kinds.CloseParenthesis = refl
numbered-number Kinds.OpenBracket = refl
numbered-number Kinds.CloseBracket = refl
numbered-number Kinds.OpenBrace = refl
numbered-number Kinds.CloseBrace = refl
numbered-number Kinds.Comma = refl
numbered-number Kinds.Colon = refl
numbered-number Kinds.Dot = refl
numbered-number Kinds.Question = refl
numbered-number Kinds.Assign = refl
numbered-number Kinds.PlusAssign = refl
numbered-number Kinds.Equal = refl
numbered-number Kinds.NotEqual = refl
numbered-number Kinds.Less = refl
numbered-number Kinds.LessOrEqual = refl
numbered-number Kinds.Greater = refl
numbered-number Kinds.GreaterOrEqual = refl
numbered-number Kinds.Plus = refl
numbered-number Kinds.Minus = refl
numbered-number Kinds.Times = refl
numbered-number Kinds.Divide = refl
numbered-number Kinds.Remainder = refl
numbered-number Kinds.Newline = refl
numbered-number Kinds.Number = refl
numbered-number Kinds.RawString = refl
numbered-number Kinds.FormatString = refl
numbered-number Kinds.RawFormatString = refl

pub is-true : (a b : TokenKind) → is a b ≡ true → a ≡ b
is-true a b e = sym (numbered-number a) ∙ ap numbered (eqb-true (number a) (number b) e) ∙ numbered-number b

pub eq-is : (a b : TokenKind) → a ≡ b → is a b ≡ true
eq-is a b e = eq-eqb (number a) (number b) (ap number e)
