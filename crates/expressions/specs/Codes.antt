-- Defines the syntax trees of a file's code, by the table of names at the time the code was made.
use Rattle.std.specs.Prelude.{ℕ, List, map}
use Rattle.code.specs.declared.code.Code.{Code}
use Rattle.code.specs.Nodes.{trees}
use Rattle.code.specs.Statements.{statement_at, statement_trees}
use Rattle.syntax.specs.ExpressionTree.{ExpressionTree}
use Rattle.syntax.specs.Tree.{StatementTree, Statements, statements}

-- Returns the trees of all expressions.
abbrev pub expressions_by : List (List ℕ) → Code → List ExpressionTree
expressions_by table c = trees table c.nodes.items

-- Returns the trees of all statements.
abbrev pub statements_by : List (List ℕ) → Code → List StatementTree
statements_by table c = statement_trees table (expressions_by table c) c.statements.items

-- Returns the trees of some statements.
abbrev pub block_by : List (List ℕ) → Code → List ℕ → Statements
block_by table c numbers = statements (map (statement_at (statements_by table c)) numbers)

-- Returns the statements of a file.
abbrev pub file_by : List (List ℕ) → Code → Statements
file_by table c = block_by table c c.body.items
