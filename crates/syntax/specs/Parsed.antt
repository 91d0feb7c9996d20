-- Defines what a source spells.
use Rattle.std.specs.Prelude.{◌≡◌, ℕ, ◌+◌, ◌-◌, ◌≤◌, List, [], ◌∷◌, length, drop, Result, Ok, Err}
use Rattle.syntax.specs.lexer.Bytes.{newlines}
use Rattle.syntax.specs.lexer.Lexeme.{Lexeme}
use Rattle.syntax.specs.Tree.{FileTree}
use Rattle.syntax.specs.lexer.Tokens.{AreTokens, IsUnreadable}
use Rattle.syntax.specs.lexer.Lexing.{lexed_tokens}
use Rattle.syntax.specs.Grammar.{file, most_levels}
use Rattle.syntax.specs.Outcome.{BeginsBy, IsUnexpected, IsTooDeep}
use Rattle.syntax.specs.Reading.{all_of}
use Rattle.syntax.specs.ReadingStatements.{file_at}
use Rattle.syntax.specs.declared.stop.ParseStop.{ParseStop}
use Rattle.syntax.specs.declared.stop.ParseStop.TheVariants.{Unexpected, TooDeep}
use Rattle.syntax.specs.declared.lexer.fault.SyntaxFault.{SyntaxFault}
use Rattle.syntax.specs.declared.lexer.fault.FaultKind.{FaultKind}
use Rattle.syntax.specs.declared.lexer.fault.FaultKind.TheVariants as Faults

-- ---- as a function of the source

-- Returns the line of the first token, or `end` if there is no token.
abbrev pub first_line : ℕ → List Lexeme → ℕ
first_line end [] = end
first_line end (t ∷ ts) = t.line

-- Returns the line of the token with this index, or of the source's end.
abbrev pub line_of : List ℕ → List Lexeme → ℕ → ℕ
line_of source ts k = first_line (1 + newlines source) (drop k ts)

-- Returns the fault of a stop, with the line of its token.
abbrev pub located_fault : List ℕ → List Lexeme → ParseStop → SyntaxFault
located_fault source ts (Unexpected left) = record { kind = Faults.Grammar; line = line_of source ts (length ts - left) }
located_fault source ts (TooDeep left) = record { kind = Faults.Nesting; line = line_of source ts (length ts - left) }

-- Returns the file, or the fault of the token where reading stopped, with its line in the source.
abbrev pub in_source : List ℕ → List Lexeme → Result FileTree ParseStop → Result FileTree SyntaxFault
in_source source ts (Ok f) = Ok f
in_source source ts (Err s) = Err (located_fault source ts s)

-- Returns the file that the tokens of a source spell, or the fault of its grammar. A fault of the tokens is returned as it is.
abbrev pub parsed_tokens : List ℕ → Result (List Lexeme) SyntaxFault → Result FileTree SyntaxFault
parsed_tokens source (Ok ts) = in_source source ts (all_of (file_at most_levels) ts)
parsed_tokens source (Err e) = Err e

-- Returns the file that a source spells, or its fault.
unfoldable pub parsed_file : List ℕ → Result FileTree SyntaxFault
parsed_file source = parsed_tokens source (lexed_tokens source)

-- ---- as relations

-- The tokens of the source spell the file, with at most this many levels.
pub record Spells (levels : ℕ) (source : List ℕ) (f : FileTree) : Type 0 where
  pub tokens : List Lexeme
  pub are_tokens : AreTokens source tokens
  pub spelled : (file levels).spells f tokens []

-- The predicate holds of the tokens of the source, at a token on this line.
pub record HoldsOn (holds : List Lexeme → ℕ → Type 0) (source : List ℕ) (line : ℕ) : Type 0 where
  pub tokens : List Lexeme
  pub are_tokens : AreTokens source tokens
  -- The number of tokens before the one on this line. At the end of the source it counts all tokens.
  pub index : ℕ
  pub here : line ≡ line_of source tokens index
  pub holding : holds tokens index

-- Holds for E2 if no token begins on this line, and for E3 if the tokens begin no file from the one on this line on. It holds for E4 if the
-- token on this line is the first that opens a level too many.
abbrev pub FaultsBy : FaultKind → List ℕ → ℕ → Type 0
FaultsBy Faults.Token source line = IsUnreadable source line
FaultsBy Faults.Grammar source line = HoldsOn (IsUnexpected file most_levels) source line
FaultsBy Faults.Nesting source line = HoldsOn (IsTooDeep file most_levels) source line

-- Holds if the source has this fault.
abbrev pub HasFault : List ℕ → SyntaxFault → Type 0
HasFault source f = FaultsBy f.kind source f.line

-- Holds if, with any number of levels, the first j tokens begin a file whenever the first k do and j is at most k.
abbrev pub FrontsAreShorter : List ℕ → Type 0
FrontsAreShorter source = (n : ℕ) (ts : List Lexeme) (j k : ℕ) → AreTokens source ts → j ≤ k → BeginsBy (file n) ts k
    → BeginsBy (file n) ts j
