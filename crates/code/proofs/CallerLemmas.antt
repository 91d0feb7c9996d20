-- What a caller cites of code: the tree of a node has the trees of its parts, and these stand before it.
use Rattle.std.proofs.Common.{◌≡◌, ℕ, zero, suc, ◌+◌, ◌<◌, List, [], ◌∷◌, ◌++◌, length, length-append, append-nil, append_assoc, map}
use Rattle.std.proofs.Common.{get_or, fold, refl, sym, ap, subst, ◌∙◌, arith}
use Rattle.std.specs.Prelude.{nat_lt, ◌&&◌, IsTrue}
use Rattle.std.specs.List.{list_all}
use Rattle.std.specs.Option.{option_map}
use Rattle.syntax.specs.ExpressionTree.{ExpressionTree, NameTree, ListTree, DictionaryTree, FunctionTree, PostfixTree, PrefixTree}
use Rattle.syntax.specs.ExpressionTree.{ChainTree, TernaryTree, expressions, entries, arguments, links, operands}
use Rattle.syntax.specs.Tree.{StatementTree, BreakTree, IfTree, ForeachTree, branches, statements}
use Rattle.code.specs.declared.node.Node.{Node}
use Rattle.code.specs.declared.node.Node.TheVariants as flat
use Rattle.code.specs.declared.node.StatementNode.{StatementNode}
use Rattle.code.specs.declared.node.StatementNode.TheVariants as block
use Rattle.code.specs.Nodes.{tree_at, tree_of, with_node, trees, within, all_within, entry_at, entry_within, argument_at, argument_within}
use Rattle.code.specs.Nodes.{operand_at, operand_within, link_at, link_within}
use Rattle.code.specs.Statements.{name_at, statement_at, branch_at, branch_within, second_within, statement_tree, statement_within}
use Rattle.code.specs.Statements.{with_statement, statement_trees, all_placed}
use Rattle.code.specs.Draft.{IsFront}
use Rattle.code.proofs.Trees.{both_true, is_less, at_end}
use Rattle.code.proofs.Parts.{tree_same, all_same, keeps_number, keeps_entry, keeps_argument, keeps_operand, keeps_link}
use Rattle.code.proofs.Lists.{map_alike}
use Rattle.code.proofs.StatementTrees.{statement_same}

-- later nodes change no tree
node_kept : (names : List (List ℕ)) (ts more : List ExpressionTree) (k : ℕ) (x : Node) → IsTrue (within k (length ts) x)
    → tree_of names (ts ++ more) x ≡ tree_of names ts x
node_kept names ts more k (flat.Name number line) h = refl
node_kept names ts more k (flat.Literal line node) h = refl
node_kept names ts more k (flat.List items line) h = ap (λ l. ListTree (expressions l) line)
    (all_same (λ n i. nat_lt i n) tree_at keeps_number ts more items.items h)
node_kept names ts more k (flat.Dictionary es line) h = ap (λ l. DictionaryTree (entries l) line)
    (all_same entry_within entry_at keeps_entry ts more es.items h)
node_kept names ts more k (flat.Call call line) h = ap (λ l. FunctionTree call.value.name (arguments l) line)
    (all_same argument_within argument_at keeps_argument ts more call.value.arguments.items h)
node_kept names ts more k (flat.Postfix first ls line) h =
    let p = both_true (nat_lt first (length ts)) (list_all (link_within (length ts)) ls.items) h in
    ap (λ t. PostfixTree t (links (map (link_at (ts ++ more)) ls.items)) line) (tree_same ts more first p.0)
    ∙ ap (λ l. PostfixTree (tree_at ts first) (links l) line) (all_same link_within link_at keeps_link ts more ls.items p.1)
node_kept names ts more k (flat.Prefix prefix value line) h = ap (λ t. PrefixTree prefix t line) (tree_same ts more value h)
node_kept names ts more k (flat.Chain first others line) h =
    let p = both_true (nat_lt first (length ts)) (list_all (operand_within (length ts)) others.items) h in
    ap (λ t. ChainTree t (operands (map (operand_at (ts ++ more)) others.items)) line) (tree_same ts more first p.0)
    ∙ ap (λ l. ChainTree (tree_at ts first) (operands l) line) (all_same operand_within operand_at keeps_operand ts more others.items p.1)
node_kept names ts more k (flat.Ternary test one other line) h =
    let p = both_true (nat_lt test (length ts)) (nat_lt one (length ts) && nat_lt other (length ts)) h in
    let q = both_true (nat_lt one (length ts)) (nat_lt other (length ts)) p.1 in
    ap (λ t. TernaryTree t (tree_at (ts ++ more) one) (tree_at (ts ++ more) other) line) (tree_same ts more test p.0)
    ∙ ap (λ t. TernaryTree (tree_at ts test) t (tree_at (ts ++ more) other) line) (tree_same ts more one q.0)
    ∙ ap (λ t. TernaryTree (tree_at ts test) (tree_at ts one) t line) (tree_same ts more other q.1)

nodes_stay : (names : List (List ℕ)) (done : List ExpressionTree) (xs : List Node) → IsFront done (fold (with_node names) done xs)
nodes_stay names done [] = record { more = []; is = sym (append-nil done) }
nodes_stay names done (x ∷ xs) =
    let t = tree_of names done x in
    let b = nodes_stay names (done ++ t ∷ []) xs in
    record { more = (t ∷ []) ++ b.more; is = b.is ∙ append_assoc done (t ∷ []) b.more }

opens_from : (names : List (List ℕ)) (k : ℕ) (done : List ExpressionTree) (xs : List Node) (n i j : ℕ) (x : Node) → n ≡ length done
    → IsTrue (all_within k n xs) → i < length xs → j ≡ n + i
    → tree_at (fold (with_node names) done xs) j ≡ tree_of names (fold (with_node names) done xs) (get_or xs i x)
opens_from names k done [] n i j x e h l is = absurd (omega arith)
opens_from names k done (y ∷ ys) n zero j x e h l is =
    let t = tree_of names done y in
    let b = nodes_stay names (done ++ t ∷ []) ys in
    let w = nodes_stay names done (y ∷ ys) in
    let at : j ≡ length done = omega (arith, is, e) in
    let more : length (done ++ t ∷ []) ≡ length done + 1 = length-append done (t ∷ []) in
    let p = both_true (within k n y) (all_within k (n + 1) ys) h in
    ap (λ l. tree_at l j) b.is ∙ tree_same (done ++ t ∷ []) b.more j (is_less j (length (done ++ t ∷ [])) (omega (arith, more, at)))
    ∙ ap (λ m. get_or (done ++ t ∷ []) m (NameTree [] 0)) at ∙ at_end done t (NameTree [] 0)
    ∙ sym (ap (λ l. tree_of names l y) w.is ∙ node_kept names done w.more k y (subst (λ m. IsTrue (within k m y)) e p.0))
opens_from names k done (y ∷ ys) n (suc i) j x e h l is =
    let t = tree_of names done y in
    let more : length (done ++ t ∷ []) ≡ length done + 1 = length-append done (t ∷ []) in
    let p = both_true (within k n y) (all_within k (n + 1) ys) h in
    opens_from names k (done ++ t ∷ []) ys (n + 1) i j x (omega (arith, more, e)) p.1 (omega arith) (omega (arith, is))

-- the tree at a number is that of the node there
pub node_opens : (names : List (List ℕ)) (k : ℕ) (nodes : List Node) (i : ℕ) (x : Node) → IsTrue (all_within k 0 nodes)
    → i < length nodes → tree_at (trees names nodes) i ≡ tree_of names (trees names nodes) (get_or nodes i x)
node_opens names k nodes i x h l = opens_from names k [] nodes 0 i i x refl h l (omega arith)

parts_from : (k : ℕ) (xs : List Node) (n i j : ℕ) (x : Node) → IsTrue (all_within k n xs) → i < length xs → j ≡ n + i
    → IsTrue (within k j (get_or xs i x))
parts_from k [] n i j x h l is = absurd (omega arith)
parts_from k (y ∷ ys) n zero j x h l is =
    let at : n ≡ j = omega (arith, is) in
    subst (λ m. IsTrue (within k m y)) at (both_true (within k n y) (all_within k (n + 1) ys) h).0
parts_from k (y ∷ ys) n (suc i) j x h l is = parts_from k ys (n + 1) i j x (both_true (within k n y) (all_within k (n + 1) ys) h).1
    (omega arith) (omega (arith, is))

-- and its parts have smaller numbers
pub parts_before : (k : ℕ) (nodes : List Node) (i : ℕ) (x : Node) → IsTrue (all_within k 0 nodes) → i < length nodes
    → IsTrue (within k i (get_or nodes i x))
parts_before k nodes i x h l = parts_from k nodes 0 i i x h l (omega arith)

-- later statements change no tree
block_kept : (names : List (List ℕ)) (ts : List ExpressionTree) (ss more : List StatementTree) (k m : ℕ) (x : StatementNode)
    → IsTrue (statement_within k m (length ss) x)
    → statement_tree names ts (ss ++ more) x ≡ statement_tree names ts ss x
block_kept names ts ss more k m (block.Assign name line value) h = refl
block_kept names ts ss more k m (block.Append name line value) h = refl
block_kept names ts ss more k m (block.Expression value line) h = refl
block_kept names ts ss more k m (block.Break line) h = refl
block_kept names ts ss more k m (block.Continue line) h = refl
block_kept names ts ss more k m (block.If node) h =
    let line = node.value.line in
    let parts = node.value.branches in
    let otherwise = node.value.otherwise in
    let test = λ (i : ℕ). nat_lt i (length ss) in
    let p = both_true (list_all (branch_within m (length ss)) parts.items) (list_all test otherwise.items) h in
    ap (λ l. IfTree line (branches l) (statements (map (statement_at (ss ++ more)) otherwise.items)))
    (map_alike (branch_within m (length ss)) (branch_at ts (ss ++ more)) (branch_at ts ss)
    (λ b w. ap (λ l. (tree_at ts b.condition, b.line, statements l)) (map_alike test (statement_at (ss ++ more)) (statement_at ss)
    (λ i g. statement_same ss more i g) b.body.items (both_true (nat_lt b.condition m) (list_all test b.body.items) w).1))
    parts.items p.0)
    ∙ ap (λ l. IfTree line (branches (map (branch_at ts ss) parts.items)) (statements l))
    (map_alike test (statement_at (ss ++ more)) (statement_at ss) (λ i g. statement_same ss more i g) otherwise.items p.1)
block_kept names ts ss more k m (block.Foreach node) h =
    let line = node.value.line in
    let list_line = node.value.list_line in
    let first = node.value.first in
    let second = node.value.second in
    let list = node.value.list in
    let body = node.value.body in
    let test = λ (i : ℕ). nat_lt i (length ss) in
    let p = both_true (nat_lt first k) (second_within k second && (nat_lt list m && list_all test body.items)) h in
    let q = both_true (second_within k second) (nat_lt list m && list_all test body.items) p.1 in
    let r = both_true (nat_lt list m) (list_all test body.items) q.1 in
    ap (λ l. ForeachTree line (name_at names first) (option_map (name_at names) second) (tree_at ts list) list_line (statements l))
    (map_alike test (statement_at (ss ++ more)) (statement_at ss) (λ i g. statement_same ss more i g) body.items r.1)

statements_stay : (names : List (List ℕ)) (ts : List ExpressionTree) (done : List StatementTree) (xs : List StatementNode)
    → IsFront done (fold (with_statement names ts) done xs)
statements_stay names ts done [] = record { more = []; is = sym (append-nil done) }
statements_stay names ts done (x ∷ xs) =
    let t = statement_tree names ts done x in
    let b = statements_stay names ts (done ++ t ∷ []) xs in
    record { more = (t ∷ []) ++ b.more; is = b.is ∙ append_assoc done (t ∷ []) b.more }

block_opens_from : (names : List (List ℕ)) (ts : List ExpressionTree) (k m : ℕ) (done : List StatementTree) (xs : List StatementNode)
    (n i j : ℕ) (x : StatementNode) → n ≡ length done
    → IsTrue (all_placed k m n xs) → i < length xs → j ≡ n + i → statement_at (fold (with_statement names ts) done xs) j
    ≡ statement_tree names ts (fold (with_statement names ts) done xs) (get_or xs i x)
block_opens_from names ts k m done [] n i j x e h l is = absurd (omega arith)
block_opens_from names ts k m done (y ∷ ys) n zero j x e h l is =
    let t = statement_tree names ts done y in
    let b = statements_stay names ts (done ++ t ∷ []) ys in
    let w = statements_stay names ts done (y ∷ ys) in
    let at : j ≡ length done = omega (arith, is, e) in
    let more : length (done ++ t ∷ []) ≡ length done + 1 = length-append done (t ∷ []) in
    let p = both_true (statement_within k m n y) (all_placed k m (n + 1) ys) h in
    ap (λ l. statement_at l j) b.is ∙ statement_same (done ++ t ∷ []) b.more j
    (is_less j (length (done ++ t ∷ [])) (omega (arith, more, at)))
    ∙ ap (λ i. get_or (done ++ t ∷ []) i (BreakTree 0)) at ∙ at_end done t (BreakTree 0)
    ∙ sym (ap (λ l. statement_tree names ts l y) w.is ∙ block_kept names ts done w.more k m y
    (subst (λ i. IsTrue (statement_within k m i y)) e p.0))
block_opens_from names ts k m done (y ∷ ys) n (suc i) j x e h l is =
    let t = statement_tree names ts done y in
    let more : length (done ++ t ∷ []) ≡ length done + 1 = length-append done (t ∷ []) in
    let p = both_true (statement_within k m n y) (all_placed k m (n + 1) ys) h in
    block_opens_from names ts k m (done ++ t ∷ []) ys (n + 1) i j x (omega (arith, more, e)) p.1 (omega arith) (omega (arith, is))

-- the tree at a number is that of the statement there
pub statement_opens : (names : List (List ℕ)) (ts : List ExpressionTree) (k m : ℕ) (xs : List StatementNode) (i : ℕ)
    (x : StatementNode) → IsTrue (all_placed k m 0 xs) → i < length xs
    → statement_at (statement_trees names ts xs) i ≡ statement_tree names ts (statement_trees names ts xs) (get_or xs i x)
statement_opens names ts k m xs i x h l = block_opens_from names ts k m [] xs 0 i i x refl h l (omega arith)

block_parts_from : (k m : ℕ) (xs : List StatementNode) (n i j : ℕ) (x : StatementNode) → IsTrue (all_placed k m n xs) → i < length xs
    → j ≡ n + i → IsTrue (statement_within k m j (get_or xs i x))
block_parts_from k m [] n i j x h l is = absurd (omega arith)
block_parts_from k m (y ∷ ys) n zero j x h l is =
    let at : n ≡ j = omega (arith, is) in
    subst (λ i. IsTrue (statement_within k m i y)) at (both_true (statement_within k m n y) (all_placed k m (n + 1) ys) h).0
block_parts_from k m (y ∷ ys) n (suc i) j x h l is =
    block_parts_from k m ys (n + 1) i j x (both_true (statement_within k m n y) (all_placed k m (n + 1) ys) h).1 (omega arith)
    (omega (arith, is))

-- its expressions and names are there, and its statements have smaller numbers
pub statement_parts_before : (k m : ℕ) (xs : List StatementNode) (i : ℕ) (x : StatementNode) → IsTrue (all_placed k m 0 xs)
    → i < length xs → IsTrue (statement_within k m i (get_or xs i x))
statement_parts_before k m xs i x h l = block_parts_from k m xs 0 i i x h l (omega arith)
