-- Defines the grammar of files. The number is that of the levels that may still be opened.
use Rattle.std.specs.Prelude.{ℕ, false, [], ◌∷◌, ◌++◌}
use Rattle.syntax.specs.Tree.{FileTree}
use Rattle.syntax.specs.Form.{Form, give, ◌>>=◌, many, optional}
use Rattle.syntax.specs.Statements.{stmt, line, statements_of_lines}

-- Returns the number of levels that may be open.
abbrev pub most_levels : ℕ
most_levels = 64

-- Spells a file in which at most n levels are open at once: file = { [stmt] NL } [stmt]
abbrev pub file : ℕ → Form FileTree
file n = do
  lines ← many (line (stmt false n))
  last ← optional (stmt false n)
  give (statements_of_lines (lines ++ last ∷ []))
