-- States what holds of every text.
use Rattle.std.specs.Prelude.{◌≡◌, ℕ, List, Result, Ok, Err}
use Rattle.syntax.specs.declared.lexer.fault.SyntaxFault.{SyntaxFault}
use Rattle.syntax.specs.Grammar.{most_levels}
use Rattle.syntax.specs.Parsed.{FrontsAreShorter, HasFault, Spells, parsed_file}
use Rattle.syntax.specs.Tree.{FileTree}

-- Holds if the tokens of a text spell this file, within the limit of levels, or if the text has this fault.
abbrev pub IsParsed : List ℕ → Result FileTree SyntaxFault → Type 0
IsParsed text (Ok f) = Spells most_levels text f
IsParsed text (Err fault) = HasFault text fault

-- Each text either spells one file or has one fault, which `parsed_file` returns. No text spells a second file, with any number of levels.
-- A fault is the first one: if the tokens up to one begin a file, so do the tokens up to each earlier one.
pub record TextsAreParsed : Type 0 where
  -- Each text has a file or a fault, which `parsed_file` returns.
  pub something : (text : List ℕ) → IsParsed text (parsed_file text)
  -- A text has no other file and no other fault.
  pub once : (text : List ℕ) (read : Result FileTree SyntaxFault) → IsParsed text read → parsed_file text ≡ read
  -- A text spells at most one file, however many levels may be opened.
  pub one_file : (text : List ℕ) (m n : ℕ) (f g : FileTree) → Spells m text f → Spells n text g → f ≡ g
  -- If some tokens at the front begin a file, fewer of them begin one too.
  pub first : (text : List ℕ) → FrontsAreShorter text
