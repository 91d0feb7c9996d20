-- States what holds of the tokens of every text.
use Rattle.std.specs.Prelude.{◌≡◌, ℕ, List, Result, Ok, Err}
use Rattle.syntax.specs.declared.lexer.fault.SyntaxFault.{SyntaxFault}
use Rattle.syntax.specs.declared.lexer.fault.FaultKind.TheVariants as Faults
use Rattle.syntax.specs.lexer.Lexeme.{Lexeme}
use Rattle.syntax.specs.lexer.Lexing.{lexed_tokens}
use Rattle.syntax.specs.lexer.Texts.{TokenStandsFor, text_of}
use Rattle.syntax.specs.lexer.Tokens.{AreTokens, IsToken, IsUnreadable}
use Rattle.syntax.specs.declared.lexer.token.TokenKind.{TokenKind}

-- Holds if a text is these tokens, each the longest at its place, or if it has this fault, at the first place where no token begins.
abbrev pub IsLexed : List ℕ → Result (List Lexeme) SyntaxFault → Type 0
IsLexed text (Ok ts) = AreTokens text ts
IsLexed text (Err f) = (f.kind ≡ Faults.Token) × IsUnreadable text f.line

-- Each text either is one list of tokens or has one fault, which `lexed_tokens` returns.
pub record TextsAreLexed : Type 0 where
  -- Each text has tokens or a fault, which `lexed_tokens` returns.
  pub something : (text : List ℕ) → IsLexed text (lexed_tokens text)
  -- A text has no other tokens and no other fault.
  pub once : (text : List ℕ) (read : Result (List Lexeme) SyntaxFault) → IsLexed text read → lexed_tokens text ≡ read

-- Each token of a text has one text, which `text_of` returns for its kind and its slice.
pub record TokensStandForTexts : Type 0 where
  -- Each token has a text, which `text_of` returns.
  pub something : (kind : TokenKind) (slice rest : List ℕ) → IsToken kind slice rest → TokenStandsFor kind slice (text_of kind slice)
  -- A token has no other text.
  pub once : (kind : TokenKind) (slice text : List ℕ) → TokenStandsFor kind slice text → text_of kind slice ≡ text
