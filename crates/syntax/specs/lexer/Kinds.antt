-- Defines the kinds of tokens: how they are compared, and the texts with a fixed spelling.
use Rattle.std.specs.Prelude.{ℕ, ◌+◌, ◌-◌, Bool, ◌||◌, List, [], ◌∷◌, Option, Some, None, nat_eq, ◌==◌, if◌then◌else◌, codes}
use Rattle.std.specs.Str.{bytes_eq}
use Rattle.syntax.specs.lexer.Bytes as byte
use Rattle.syntax.specs.declared.lexer.token.TokenKind.{TokenKind}
use Rattle.syntax.specs.declared.lexer.token.TokenKind.TheVariants as Kinds

-- Returns a number for each kind.
abbrev pub number : TokenKind → ℕ
number Kinds.Name = 0
number Kinds.String = 1
number Kinds.True = 2
number Kinds.False = 3
number Kinds.If = 4
number Kinds.Elif = 5
number Kinds.Else = 6
number Kinds.EndIf = 7
number Kinds.And = 8
number Kinds.Or = 9
number Kinds.Not = 10
number Kinds.In = 11
number Kinds.Foreach = 12
number Kinds.EndForeach = 13
number Kinds.Break = 14
number Kinds.Continue = 15
number Kinds.OpenParenthesis = 16
number Kinds.CloseParenthesis = 17
number Kinds.OpenBracket = 18
number Kinds.CloseBracket = 19
number Kinds.OpenBrace = 20
number Kinds.CloseBrace = 21
number Kinds.Comma = 22
number Kinds.Colon = 23
number Kinds.Dot = 24
number Kinds.Question = 25
number Kinds.Assign = 26
number Kinds.PlusAssign = 27
number Kinds.Equal = 28
number Kinds.NotEqual = 29
number Kinds.Less = 30
number Kinds.LessOrEqual = 31
number Kinds.Greater = 32
number Kinds.GreaterOrEqual = 33
number Kinds.Plus = 34
number Kinds.Minus = 35
number Kinds.Times = 36
number Kinds.Divide = 37
number Kinds.Remainder = 38
number Kinds.Newline = 39
number Kinds.Number = 40
number Kinds.RawString = 41
number Kinds.FormatString = 42
number Kinds.RawFormatString = 43

-- Returns whether two kinds are the same.
abbrev pub is : TokenKind → TokenKind → Bool
is a b = nat_eq (number a) (number b)

-- Returns the kind of a word: a keyword, or else a name.
abbrev pub word_kind : List ℕ → TokenKind
word_kind text =
    if bytes_eq text (codes "true") then Kinds.True
    else (if bytes_eq text (codes "false") then Kinds.False
    else (if bytes_eq text (codes "if") then Kinds.If
    else (if bytes_eq text (codes "elif") then Kinds.Elif
    else (if bytes_eq text (codes "else") then Kinds.Else
    else (if bytes_eq text (codes "endif") then Kinds.EndIf
    else (if bytes_eq text (codes "and") then Kinds.And
    else (if bytes_eq text (codes "or") then Kinds.Or
    else (if bytes_eq text (codes "not") then Kinds.Not
    else (if bytes_eq text (codes "in") then Kinds.In
    else (if bytes_eq text (codes "foreach") then Kinds.Foreach
    else (if bytes_eq text (codes "endforeach") then Kinds.EndForeach
    else (if bytes_eq text (codes "break") then Kinds.Break
    else (if bytes_eq text (codes "continue") then Kinds.Continue
    else Kinds.Name)))))))))))))

-- Returns the kind of a string of this kind after an `f`.
abbrev pub format_kind : TokenKind → TokenKind
format_kind k = if is k Kinds.String then Kinds.FormatString else (if is k Kinds.RawString then Kinds.RawFormatString else k)

-- Returns the symbol of one byte.
abbrev pub single_kind : ℕ → Option TokenKind
single_kind b =
    if b == byte.open_parenthesis then Some Kinds.OpenParenthesis
    else (if b == byte.close_parenthesis then Some Kinds.CloseParenthesis
    else (if b == byte.open_bracket then Some Kinds.OpenBracket
    else (if b == byte.close_bracket then Some Kinds.CloseBracket
    else (if b == byte.open_brace then Some Kinds.OpenBrace
    else (if b == byte.close_brace then Some Kinds.CloseBrace
    else (if b == byte.comma then Some Kinds.Comma
    else (if b == byte.colon then Some Kinds.Colon
    else (if b == byte.dot then Some Kinds.Dot
    else (if b == byte.question then Some Kinds.Question
    else (if b == byte.equals then Some Kinds.Assign
    else (if b == byte.less then Some Kinds.Less
    else (if b == byte.greater then Some Kinds.Greater
    else (if b == byte.plus then Some Kinds.Plus
    else (if b == byte.minus then Some Kinds.Minus
    else (if b == byte.star then Some Kinds.Times
    else (if b == byte.slash then Some Kinds.Divide
    else (if b == byte.percent then Some Kinds.Remainder
    else (if b == byte.newline then Some Kinds.Newline
    else None))))))))))))))))))

-- Returns the symbol that this byte and an equals sign form.
abbrev pub with_equals_kind : ℕ → Option TokenKind
with_equals_kind b =
    if b == byte.equals then Some Kinds.Equal
    else (if b == byte.exclamation then Some Kinds.NotEqual
    else (if b == byte.less then Some Kinds.LessOrEqual
    else (if b == byte.greater then Some Kinds.GreaterOrEqual
    else (if b == byte.plus then Some Kinds.PlusAssign
    else None))))

-- Returns the symbol that a text is.
abbrev pub symbol_kind : List ℕ → Option TokenKind
symbol_kind [] = None
symbol_kind (a ∷ []) = single_kind a
symbol_kind (a ∷ b ∷ []) = if b == byte.equals then with_equals_kind a else None
symbol_kind (a ∷ b ∷ c ∷ more) = None

-- Returns how many brackets are open after a token of this kind, given how many are open before it.
abbrev pub depth_after : TokenKind → ℕ → ℕ
depth_after k depth =
    if is k Kinds.OpenParenthesis || is k Kinds.OpenBracket || is k Kinds.OpenBrace then depth + 1
    else (if is k Kinds.CloseParenthesis || is k Kinds.CloseBracket || is k Kinds.CloseBrace then depth - 1
    else depth)
