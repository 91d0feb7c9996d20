-- Defines literals: their tokens and their meanings.
use Rattle.std.specs.Prelude.{ℕ, Bool, true, false, ◌&&◌, ◌==◌, not, List, string_bytes, bytes_eq}
use Rattle.syntax.specs.declared.tree.Literal.{Literal}
use Rattle.syntax.specs.declared.tree.Literal.TheVariants as literals
use Rattle.syntax.specs.lexer.Numerals.{magnitude}
use Rattle.syntax.specs.lexer.Texts.{text_of}
use Rattle.syntax.specs.declared.lexer.token.TokenKind.{TokenKind}
use Rattle.syntax.specs.declared.lexer.token.TokenKind.TheVariants as kinds
use Rattle.code.specs.FormatStrings.{text_of_parts}
use Rattle.code.specs.declared.literal.LiteralValue.{LiteralValue}
use Rattle.code.specs.declared.literal.LiteralValue.TheVariants as meanings
use Rattle.code.specs.declared.literal.Spelling.{Spelling}
use Rattle.code.specs.declared.literal.Spelling.TheVariants as spellings

-- Returns the bytes of a literal as it is spelled in the source.
abbrev pub bytes_of_literal : Spelling → List ℕ
bytes_of_literal (spellings.Short t) = t
bytes_of_literal (spellings.Long t) = string_bytes t

-- Returns the kind of token of a literal.
abbrev pub kind_of : Literal → TokenKind
kind_of literals.True = kinds.True
kind_of literals.False = kinds.False
kind_of literals.Number = kinds.Number
kind_of literals.String = kinds.String
kind_of literals.RawString = kinds.RawString
kind_of literals.FormatString = kinds.FormatString
kind_of literals.RawFormatString = kinds.RawFormatString

-- Holds if a literal spells this boolean.
abbrev pub is_boolean : Bool → Literal → Bool
is_boolean true literals.True = true
is_boolean false literals.False = true
is_boolean _ _ = false

-- Holds if a literal is a number.
abbrev pub is_number : Literal → Bool
is_number literals.Number = true
is_number _ = false

-- Holds if a literal is a string, but no f-string.
abbrev pub is_string : Literal → Bool
is_string literals.String = true
is_string literals.RawString = true
is_string _ = false

-- Holds if a literal is an f-string.
abbrev pub is_format : Literal → Bool
is_format literals.FormatString = true
is_format literals.RawFormatString = true
is_format _ = false

-- Holds if this is the meaning of a literal with this spelling.
abbrev pub means : Literal → List ℕ → LiteralValue → Bool
means literal source (meanings.Boolean b) = is_boolean b literal
means literal source (meanings.Integer n) = is_number literal && (n == magnitude source)
means literal source (meanings.Short t) = is_string literal && bytes_eq t (text_of (kind_of literal) source)
means literal source (meanings.Text t) = is_string literal && bytes_eq t.value (text_of (kind_of literal) source)
means literal source (meanings.Format f) =
    is_format literal && bytes_eq (text_of_parts f.value.parts.items) (text_of (kind_of literal) source)
means literal source (meanings.Source t) = not (is_format literal) && bytes_eq (string_bytes t.value) source
