-- Defines a token, without its place in memory.
use Rattle.std.specs.Prelude.{ℕ, List, map}
use Rattle.syntax.specs.declared.lexer.token.TokenKind.{TokenKind}
use Rattle.syntax.specs.declared.lexer.token.Token.{Token}

-- A token: its kind, its bytes as written, and the line on which it begins, from 1.
pub record Lexeme : Type 0 where
  pub kind : TokenKind
  pub text : List ℕ
  pub line : ℕ

-- Returns the kind, the bytes and the line of a token of the code.
abbrev pub lexeme_of : Token → Lexeme
lexeme_of t = record { kind = t.kind; text = t.text.now; line = t.line }

-- Returns the kinds, the bytes and the lines of tokens of the code, in order.
abbrev pub lexemes : List Token → List Lexeme
lexemes ts = map lexeme_of ts
