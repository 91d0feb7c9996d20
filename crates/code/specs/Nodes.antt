-- Defines the expression trees of a list of nodes. Each node refers to its parts by number, and comes after them.
use Rattle.std.specs.Prelude.{ℕ, ◌+◌, Bool, true, ◌&&◌, nat_lt, List, [], ◌∷◌, ◌++◌, map, fold, slice_index_or}
use Rattle.std.specs.List.{list_all}
use Rattle.syntax.specs.ExpressionTree.{ExpressionTree, EntryTree, ArgumentTree, OperandTree, LinkTree, NameTree, LiteralTree, ListTree}
use Rattle.syntax.specs.ExpressionTree.{DictionaryTree, FunctionTree, PostfixTree, PrefixTree, ChainTree, TernaryTree, MethodTree}
use Rattle.syntax.specs.ExpressionTree.{IndexTree, expressions, entries, arguments, links, operands}
use Rattle.code.specs.Literals.{bytes_of_literal}
use Rattle.code.specs.declared.node.Node.{Node}
use Rattle.code.specs.declared.node.Node.TheVariants as flat
use Rattle.code.specs.declared.node.EntryNode.{EntryNode}
use Rattle.code.specs.declared.node.ArgumentNode.{ArgumentNode}
use Rattle.code.specs.declared.node.OperandNode.{OperandNode}
use Rattle.code.specs.declared.node.LinkNode.{LinkNode}
use Rattle.code.specs.declared.node.LinkNode.TheVariants.{Method, Index}

-- Returns the tree of the node with a number, given the trees of the nodes before it. It is total: there is always a tree.
abbrev pub tree_at : List ExpressionTree → ℕ → ExpressionTree
tree_at ts i = slice_index_or ts i (NameTree [] 0)

-- Returns the tree of an entry.
abbrev pub entry_at : List ExpressionTree → EntryNode → EntryTree
entry_at ts e = (tree_at ts e.key, tree_at ts e.value)

-- Returns the tree of an argument.
abbrev pub argument_at : List ExpressionTree → ArgumentNode → ArgumentTree
argument_at ts a = (a.name, tree_at ts a.value)

-- Returns the tree of an operator and its operand.
abbrev pub operand_at : List ExpressionTree → OperandNode → OperandTree
operand_at ts o = (o.operator, tree_at ts o.value)

-- Returns the tree of a link.
abbrev pub link_at : List ExpressionTree → LinkNode → LinkTree
link_at ts (Method name items) = MethodTree name (arguments (map (argument_at ts) items.items))
link_at ts (Index i) = IndexTree (tree_at ts i)

-- Returns the tree of a node, given the table of names and the trees of the nodes before it.
abbrev pub tree_of : List (List ℕ) → List ExpressionTree → Node → ExpressionTree
tree_of names ts (flat.Name number line) = NameTree (slice_index_or names number []) line
tree_of names ts (flat.Literal line node) = LiteralTree node.literal (bytes_of_literal node.source.value) line
tree_of names ts (flat.List items line) = ListTree (expressions (map (tree_at ts) items.items)) line
tree_of names ts (flat.Dictionary es line) = DictionaryTree (entries (map (entry_at ts) es.items)) line
tree_of names ts (flat.Call call line) =
    FunctionTree call.value.name (arguments (map (argument_at ts) call.value.arguments.items)) line
tree_of names ts (flat.Postfix first ls line) = PostfixTree (tree_at ts first) (links (map (link_at ts) ls.items)) line
tree_of names ts (flat.Prefix prefix value line) = PrefixTree prefix (tree_at ts value) line
tree_of names ts (flat.Chain first others line) = ChainTree (tree_at ts first) (operands (map (operand_at ts) others.items)) line
tree_of names ts (flat.Ternary test one other line) = TernaryTree (tree_at ts test) (tree_at ts one) (tree_at ts other) line

-- Returns the trees followed by that of one more node.
abbrev pub with_node : List (List ℕ) → List ExpressionTree → Node → List ExpressionTree
with_node names ts n = ts ++ tree_of names ts n ∷ []

-- Returns the trees of all nodes, in order.
abbrev pub trees : List (List ℕ) → List Node → List ExpressionTree
trees names nodes = fold (with_node names) [] nodes

-- ---- Tests: all parts are among the first n nodes, and a name is among the first k names.

-- Holds if each of these numbers is less than n.
abbrev pub are_below : ℕ → List ℕ → Bool
are_below n numbers = list_all (λ i. nat_lt i n) numbers

-- Holds if the parts of an entry are among the first n nodes.
abbrev pub entry_within : ℕ → EntryNode → Bool
entry_within n e = nat_lt e.key n && nat_lt e.value n

-- Holds if the value of an argument is among the first n nodes.
abbrev pub argument_within : ℕ → ArgumentNode → Bool
argument_within n a = nat_lt a.value n

-- Holds if an operand is among the first n nodes.
abbrev pub operand_within : ℕ → OperandNode → Bool
operand_within n o = nat_lt o.value n

-- Holds if the parts of a link are among the first n nodes.
abbrev pub link_within : ℕ → LinkNode → Bool
link_within n (Method name items) = list_all (argument_within n) items.items
link_within n (Index i) = nat_lt i n

-- Holds if the parts of a node are among the first n nodes, and its name among the first k names.
abbrev pub within : ℕ → ℕ → Node → Bool
within k n (flat.Name number line) = nat_lt number k
within k n (flat.Literal line node) = true
within k n (flat.List items line) = are_below n items.items
within k n (flat.Dictionary es line) = list_all (entry_within n) es.items
within k n (flat.Call call line) = list_all (argument_within n) call.value.arguments.items
within k n (flat.Postfix first ls line) = nat_lt first n && list_all (link_within n) ls.items
within k n (flat.Prefix prefix value line) = nat_lt value n
within k n (flat.Chain first others line) = nat_lt first n && list_all (operand_within n) others.items
within k n (flat.Ternary test one other line) = nat_lt test n && (nat_lt one n && nat_lt other n)

-- Holds if each node comes after its parts, where the first of these nodes has the number n.
abbrev pub all_within : ℕ → ℕ → List Node → Bool
all_within k n [] = true
all_within k n (x ∷ xs) = within k n x && all_within k (n + 1) xs
