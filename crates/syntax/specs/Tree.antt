-- Defines the tree of a file, without its place in memory.
use Rattle.std.specs.Prelude.{ℕ, List, [], ◌∷◌, map, Option}
use Rattle.std.specs.Option.{option_map}
use Rattle.syntax.specs.ExpressionTree.{ExpressionTree, expression_of}
use Rattle.syntax.specs.declared.tree.Statement.{Statement}
use Rattle.syntax.specs.declared.tree.Statement.TheOpen.{Statement-F, Branch-F, Assign, Append, Break, Continue, If, Foreach}
use Rattle.syntax.specs.declared.tree.Statement.TheOpen as opened
use Rattle.syntax.specs.declared.tree.Statement.TheFolds.{fold-Statement, fold-Branch}
use Rattle.syntax.specs.declared.tree.Branch.{Branch}
use Rattle.syntax.specs.declared.tree.File.{File}

mutual
  -- A statement has the line of its first token, and so have a condition and the list of a `foreach`.
  pub data StatementTree : Type 0 where
    -- A name, the line, and the new value.
    AssignTree : List ℕ → ℕ → ExpressionTree → StatementTree
    -- A name, the line, and the value that is added.
    AppendTree : List ℕ → ℕ → ExpressionTree → StatementTree
    -- An expression, and the line of its first token.
    ValueTree : ExpressionTree → ℕ → StatementTree
    -- A `break`, and its line.
    BreakTree : ℕ → StatementTree
    -- A `continue`, and its line.
    ContinueTree : ℕ → StatementTree
    -- The line, the branches with a condition, and the statements after `else`.
    IfTree : ℕ → Branches → Statements → StatementTree
    -- The line, the first name, the second, the list and its line, and the statements of the loop.
    ForeachTree : ℕ → List ℕ → Option (List ℕ) → ExpressionTree → ℕ → Statements → StatementTree

  -- The statements of a block, in order.
  pub data Statements : Type 0 where
    NoStatement : Statements
    MoreStatements : StatementTree → Statements → Statements

  -- The branches of an `if`: a condition, its line, and the statements after it.
  pub data Branches : Type 0 where
    NoBranch : Branches
    MoreBranches : ExpressionTree → ℕ → Statements → Branches → Branches

-- A branch of an `if` is its condition, the line of the condition's first token, and its statements. A `foreach` has its list as the
-- condition.
abbrev pub BranchTree : Type 0
BranchTree = ExpressionTree × ℕ × Statements

-- A file is the list of its statements, in order.
abbrev pub FileTree : Type 0
FileTree = List StatementTree

-- Returns the statements of a list as `Statements`, in the same order.
abbrev pub statements : List StatementTree → Statements
statements [] = NoStatement
statements (s ∷ ss) = MoreStatements s (statements ss)

-- Returns the branches of a list as `Branches`, in the same order.
abbrev pub branches : List BranchTree → Branches
branches [] = NoBranch
branches (b ∷ bs) = MoreBranches b.0 b.1 b.2 (branches bs)

-- Returns the tree of a statement of the code, given the trees of the statements and branches in it.
abbrev pub statement_step : Statement-F StatementTree BranchTree → StatementTree
statement_step (Assign name line value) = AssignTree name.now line (expression_of value.value)
statement_step (Append name line value) = AppendTree name.now line (expression_of value.value)
statement_step (opened.Expression value line) = ValueTree (expression_of value) line
statement_step (Break line) = BreakTree line
statement_step (Continue line) = ContinueTree line
statement_step (If line parts otherwise) = IfTree line (branches parts.items) (statements otherwise.items)
statement_step (Foreach line first second round) =
    ForeachTree line first.now (option_map (λ name. name.now) second) round.value.0 round.value.1 round.value.2

-- Returns the tree of a branch of the code, given the trees of its statements.
abbrev pub branch_step : Branch-F StatementTree BranchTree → BranchTree
branch_step b = (expression_of b.condition, b.line, statements b.body.items)

-- Returns the tree of a statement of the code. It has the same parts and lines, without references, boxes and vectors.
abbrev pub statement_of : Statement → StatementTree
statement_of = fold-Statement StatementTree BranchTree statement_step branch_step

-- Returns the tree of a branch of the code, or of the list and the body of a `foreach`.
abbrev pub branch_of : Branch → BranchTree
branch_of = fold-Branch StatementTree BranchTree statement_step branch_step

-- Returns the trees of the statements of a file of the code, in order.
abbrev pub file_of : File → FileTree
file_of f = map statement_of f.statements.items
