-- Defines the statement trees of a list of nodes, and the file that code means.
use Rattle.std.specs.Prelude.{ℕ, ◌+◌, Bool, true, ◌&&◌, nat_lt, List, [], ◌∷◌, ◌++◌, map, fold, slice_index_or, Option, Some, None}
use Rattle.std.specs.Prelude.{if◌then◌else◌}
use Rattle.std.specs.List.{list_all}
use Rattle.std.specs.Option.{option_map}
use Rattle.syntax.specs.ExpressionTree.{ExpressionTree}
use Rattle.syntax.specs.Tree.{StatementTree, BranchTree, AssignTree, AppendTree, ValueTree, BreakTree, ContinueTree, IfTree, ForeachTree}
use Rattle.syntax.specs.Tree.{statements, branches}
use Rattle.code.specs.declared.node.StatementNode.{StatementNode}
use Rattle.code.specs.declared.node.StatementNode.TheVariants as flat
use Rattle.code.specs.declared.node.BranchNode.{BranchNode}
use Rattle.code.specs.Nodes.{are_below, tree_at}

-- Returns the name with a number. It is total: there is always a name.
abbrev pub name_at : List (List ℕ) → ℕ → List ℕ
name_at names i = slice_index_or names i []

-- Returns the tree of the statement with a number, given the trees of the statements before it. It is total: there is always a tree.
abbrev pub statement_at : List StatementTree → ℕ → StatementTree
statement_at ss i = slice_index_or ss i (BreakTree 0)

-- Returns the tree of a branch of an `if`.
abbrev pub branch_at : List ExpressionTree → List StatementTree → BranchNode → BranchTree
branch_at ts ss b = (tree_at ts b.condition, b.line, statements (map (statement_at ss) b.body.items))

-- Returns the tree of a statement, given the table of names, the trees of the expressions and those of the statements before it.
abbrev pub statement_tree : List (List ℕ) → List ExpressionTree → List StatementTree → StatementNode → StatementTree
statement_tree names ts ss (flat.Assign name line value) = AssignTree (name_at names name) line (tree_at ts value)
statement_tree names ts ss (flat.Append name line value) = AppendTree (name_at names name) line (tree_at ts value)
statement_tree names ts ss (flat.Expression value line) = ValueTree (tree_at ts value) line
statement_tree names ts ss (flat.Break line) = BreakTree line
statement_tree names ts ss (flat.Continue line) = ContinueTree line
statement_tree names ts ss (flat.If node) = IfTree node.value.line (branches (map (branch_at ts ss) node.value.branches.items))
    (statements (map (statement_at ss) node.value.otherwise.items))
statement_tree names ts ss (flat.Foreach node) =
    ForeachTree node.value.line (name_at names node.value.first) (option_map (name_at names) node.value.second) (tree_at ts node.value.list)
    node.value.list_line (statements (map (statement_at ss) node.value.body.items))

-- Returns the trees followed by that of one more statement.
abbrev pub with_statement : List (List ℕ) → List ExpressionTree → List StatementTree → StatementNode → List StatementTree
with_statement names ts ss s = ss ++ statement_tree names ts ss s ∷ []

-- Returns the trees of all statements, in order.
abbrev pub statement_trees : List (List ℕ) → List ExpressionTree → List StatementNode → List StatementTree
statement_trees names ts nodes = fold (with_statement names ts) [] nodes

-- Returns the node that assigns a value to a name, or adds one to its value.
abbrev pub set_node : Bool → ℕ → ℕ → ℕ → StatementNode
set_node appends name line value = if appends then flat.Append name line value else flat.Assign name line value

-- ---- Tests: all parts are among the first n statements, expressions among the first m, and names among the first k.

-- Holds if the condition of a branch is among the first m expressions, and its statements among the first n.
abbrev pub branch_within : ℕ → ℕ → BranchNode → Bool
branch_within m n b = nat_lt b.condition m && are_below n b.body.items

-- Holds if the second name of a loop, if there is one, is among the first k names.
abbrev pub second_within : ℕ → Option ℕ → Bool
second_within k None = true
second_within k (Some i) = nat_lt i k

-- Holds if the parts of a statement are among the first n statements, m expressions and k names.
abbrev pub statement_within : ℕ → ℕ → ℕ → StatementNode → Bool
statement_within k m n (flat.Assign name line value) = nat_lt name k && nat_lt value m
statement_within k m n (flat.Append name line value) = nat_lt name k && nat_lt value m
statement_within k m n (flat.Expression value line) = nat_lt value m
statement_within k m n (flat.Break line) = true
statement_within k m n (flat.Continue line) = true
statement_within k m n (flat.If node) = list_all (branch_within m n) node.value.branches.items
    && are_below n node.value.otherwise.items
statement_within k m n (flat.Foreach node) = nat_lt node.value.first k && (second_within k node.value.second
    && (nat_lt node.value.list m && are_below n node.value.body.items))

-- Holds if each statement comes after its parts, where the first of these statements has the number n.
abbrev pub all_placed : ℕ → ℕ → ℕ → List StatementNode → Bool
all_placed k m n [] = true
all_placed k m n (s ∷ ss) = statement_within k m n s && all_placed k m (n + 1) ss
