-- Defines the syntax tree of a file's code.
use Rattle.std.specs.Prelude.{◌≡◌, ℕ, ◌≤◌, List, ◌++◌, length, map}
use Rattle.syntax.specs.Tree.{FileTree}
use Rattle.code.specs.declared.code.Code.{Code}
use Rattle.code.specs.Nodes.{trees}
use Rattle.code.specs.Statements.{statement_at, statement_trees}

-- Returns the trees of the statements of the file, with the names of a table.
abbrev pub code_tree : List (List ℕ) → Code → FileTree
code_tree names c = map (statement_at (statement_trees names (trees names c.nodes.items) c.statements.items)) c.body.items

-- Holds if code keeps its tree when names are appended to those that it uses.
abbrev pub KeepsTree : Code → Type 0
KeepsTree c = (names more : List (List ℕ)) → c.names ≤ length names → code_tree (names ++ more) c ≡ code_tree names c
