-- Trees of statements, as names, expressions and statements are put behind the others.
use Rattle.std.proofs.Common.{◌≡◌, ℕ, ◌+◌, ◌≤◌, Bool, true, false, List, [], ◌∷◌, ◌++◌, length, length-append, append-nil, map, get_or}
use Rattle.std.proofs.Common.{fold, Option, Some, None, refl, sym, ap, subst, ◌∙◌, arith}
use Rattle.std.specs.Prelude.{nat_lt, ◌&&◌, IsTrue, if◌then◌else◌}
use Rattle.std.specs.List.{list_all}
use Rattle.std.specs.Option.{option_map}
use Rattle.std.proofs.lemmas.List.Sums.{fold_push}
use Rattle.syntax.specs.ExpressionTree.{ExpressionTree}
use Rattle.syntax.specs.Tree.{StatementTree, AssignTree, AppendTree, ValueTree, BreakTree, IfTree, ForeachTree, statements, branches}
use Rattle.code.specs.declared.draft.Draft.{Draft}
use Rattle.code.specs.declared.node.BranchNode.{BranchNode}
use Rattle.code.specs.declared.node.StatementNode.{StatementNode}
use Rattle.code.specs.declared.node.StatementNode.TheVariants as flat
use Rattle.code.specs.declared.node.Node.{Node}
use Rattle.code.specs.Nodes.{tree_at, trees, all_within}
use Rattle.code.specs.Statements.{name_at, statement_at, branch_at, statement_tree, with_statement, statement_trees, branch_within}
use Rattle.code.specs.Statements.{second_within, statement_within, all_placed}
use Rattle.code.specs.Draft.{IsFront, Grows, trees_in}
use Rattle.code.proofs.Trees.{both_true, and_both, less, is_less, at_front, at_end, length_begins, length-trees, trees_kept}
use Rattle.code.proofs.Trees.{all_wider as nodes_wider}
use Rattle.code.proofs.Parts.{lt_wider, tree_same}
use Rattle.code.proofs.Lists.{all_imply, map_alike}

pub name_same : (names more : List (List ℕ)) (i : ℕ) → IsTrue (nat_lt i (length names)) → name_at (names ++ more) i ≡ name_at names i
name_same names more i h = at_front names more i [] (less i (length names) h)

second_same : (names more : List (List ℕ)) (o : Option ℕ) → IsTrue (second_within (length names) o)
    → option_map (name_at (names ++ more)) o ≡ option_map (name_at names) o
second_same names more None h = refl
second_same names more (Some i) h = ap Some (name_same names more i h)

pub statement_same : (ss more : List StatementTree) (i : ℕ) → IsTrue (nat_lt i (length ss)) → statement_at (ss ++ more) i
    ≡ statement_at ss i
statement_same ss more i h = at_front ss more i (BreakTree 0) (less i (length ss) h)

branches_kept : (ts more : List ExpressionTree) (n : ℕ) (ss : List StatementTree) (bs : List BranchNode)
    → IsTrue (list_all (branch_within (length ts) n) bs) → map (branch_at (ts ++ more) ss) bs ≡ map (branch_at ts ss) bs
branches_kept ts more n ss bs h =
    map_alike (branch_within (length ts) n) (branch_at (ts ++ more) ss) (branch_at ts ss)
    (λ b w. ap (λ t. (t, b.line, statements (map (statement_at ss) b.body.items)))
    (tree_same ts more b.condition (both_true (nat_lt b.condition (length ts)) (list_all (λ i. nat_lt i n) b.body.items) w).0)) bs h

-- more names and expressions change no tree
statement_kept : (names mn : List (List ℕ)) (ts mt : List ExpressionTree) (n : ℕ) (ss : List StatementTree) (x : StatementNode)
    → IsTrue (statement_within (length names) (length ts) n x)
    → statement_tree (names ++ mn) (ts ++ mt) ss x ≡ statement_tree names ts ss x
statement_kept names mn ts mt n ss (flat.Assign name line value) h =
    let p = both_true (nat_lt name (length names)) (nat_lt value (length ts)) h in
    ap (λ q. AssignTree q line (tree_at (ts ++ mt) value)) (name_same names mn name p.0)
    ∙ ap (AssignTree (name_at names name) line) (tree_same ts mt value p.1)
statement_kept names mn ts mt n ss (flat.Append name line value) h =
    let p = both_true (nat_lt name (length names)) (nat_lt value (length ts)) h in
    ap (λ q. AppendTree q line (tree_at (ts ++ mt) value)) (name_same names mn name p.0)
    ∙ ap (AppendTree (name_at names name) line) (tree_same ts mt value p.1)
statement_kept names mn ts mt n ss (flat.Expression value line) h = ap (λ t. ValueTree t line) (tree_same ts mt value h)
statement_kept names mn ts mt n ss (flat.Break line) h = refl
statement_kept names mn ts mt n ss (flat.Continue line) h = refl
statement_kept names mn ts mt n ss (flat.If node) h =
    let line = node.value.line in
    let parts = node.value.branches in
    let otherwise = node.value.otherwise in
    let p = both_true (list_all (branch_within (length ts) n) parts.items) (list_all (λ i. nat_lt i n) otherwise.items) h in
    ap (λ l. IfTree line (branches l) (statements (map (statement_at ss) otherwise.items))) (branches_kept ts mt n ss parts.items p.0)
statement_kept names mn ts mt n ss (flat.Foreach node) h =
    let line = node.value.line in
    let list_line = node.value.list_line in
    let first = node.value.first in
    let second = node.value.second in
    let list = node.value.list in
    let body = node.value.body in
    let body_within = list_all (λ i. nat_lt i n) body.items in
    let p = both_true (nat_lt first (length names)) (second_within (length names) second && (nat_lt list (length ts) && body_within)) h in
    let q = both_true (second_within (length names) second) (nat_lt list (length ts) && body_within) p.1 in
    let r = both_true (nat_lt list (length ts)) body_within q.1 in
    let made = statements (map (statement_at ss) body.items) in
    ap (λ a. ForeachTree line a (option_map (name_at (names ++ mn)) second) (tree_at (ts ++ mt) list) list_line made)
    (name_same names mn first p.0)
    ∙ ap (λ a. ForeachTree line (name_at names first) a (tree_at (ts ++ mt) list) list_line made) (second_same names mn second q.0)
    ∙ ap (λ a. ForeachTree line (name_at names first) (option_map (name_at names) second) a list_line made) (tree_same ts mt list r.0)

kept_from : (names mn : List (List ℕ)) (ts mt : List ExpressionTree) (n : ℕ) (ss : List StatementTree) (xs : List StatementNode)
    → IsTrue (all_placed (length names) (length ts) n xs)
    → fold (with_statement (names ++ mn) (ts ++ mt)) ss xs ≡ fold (with_statement names ts) ss xs
kept_from names mn ts mt n ss [] h = refl
kept_from names mn ts mt n ss (x ∷ xs) h =
    let p = both_true (statement_within (length names) (length ts) n x) (all_placed (length names) (length ts) (n + 1) xs) h in
    ap (λ t. fold (with_statement (names ++ mn) (ts ++ mt)) (ss ++ t ∷ []) xs) (statement_kept names mn ts mt n ss x p.0)
    ∙ kept_from names mn ts mt (n + 1) (ss ++ statement_tree names ts ss x ∷ []) xs p.1

-- the number of nodes is that of their trees
placed_by_trees : (d : Draft) (xs : List StatementNode) → IsTrue (all_placed (length d.names) (length d.nodes.items) 0 xs)
    → IsTrue (all_placed (length d.names) (length (trees_in d)) 0 xs)
placed_by_trees d xs h = subst (λ m. IsTrue (all_placed (length d.names) m 0 xs)) (sym (length-trees d.names d.nodes.items)) h

pub statements_kept : (old new : Draft) (xs : List StatementNode) → Grows old new
    → IsTrue (all_placed (length old.names) (length old.nodes.items) 0 xs)
    → statement_trees new.names (trees_in new) xs ≡ statement_trees old.names (trees_in old) xs
statements_kept old new xs g h =
    ap (λ names. statement_trees names (trees_in new) xs) g.names.is
    ∙ ap (λ ts. statement_trees (old.names ++ g.names.more) ts xs) g.trees.is
    ∙ kept_from old.names g.names.more (trees_in old) g.trees.more 0 [] xs (placed_by_trees old xs h)

second_wider : (j k : ℕ) (o : Option ℕ) → j ≤ k → IsTrue (second_within j o) → IsTrue (second_within k o)
second_wider j k None l h = h
second_wider j k (Some i) l h = lt_wider i j k l h

branch_wider : (l m n : ℕ) (b : BranchNode) → l ≤ m → IsTrue (branch_within l n b) → IsTrue (branch_within m n b)
branch_wider l m n b le h =
    let body = list_all (λ i. nat_lt i n) b.body.items in
    let p = both_true (nat_lt b.condition l) body h in
    and_both (nat_lt b.condition m) body (lt_wider b.condition l m le p.0) p.1

statement_wider : (j k l m n : ℕ) (x : StatementNode) → j ≤ k → l ≤ m → IsTrue (statement_within j l n x)
    → IsTrue (statement_within k m n x)
statement_wider j k l m n (flat.Assign name line value) e f h =
    let p = both_true (nat_lt name j) (nat_lt value l) h in and_both (nat_lt name k) (nat_lt value m) (lt_wider name j k e p.0)
    (lt_wider value l m f p.1)
statement_wider j k l m n (flat.Append name line value) e f h =
    let p = both_true (nat_lt name j) (nat_lt value l) h in and_both (nat_lt name k) (nat_lt value m) (lt_wider name j k e p.0)
    (lt_wider value l m f p.1)
statement_wider j k l m n (flat.Expression value line) e f h = lt_wider value l m f h
statement_wider j k l m n (flat.Break line) e f h = h
statement_wider j k l m n (flat.Continue line) e f h = h
statement_wider j k l m n (flat.If node) e f h =
    let parts = node.value.branches in
    let otherwise = node.value.otherwise in
    let body = list_all (λ i. nat_lt i n) otherwise.items in
    let p = both_true (list_all (branch_within l n) parts.items) body h in
    and_both (list_all (branch_within m n) parts.items) body (all_imply (branch_within l n) (branch_within m n)
    (λ b w. branch_wider l m n b f w) parts.items p.0) p.1
statement_wider j k l m n (flat.Foreach node) e f h =
    let first = node.value.first in
    let second = node.value.second in
    let list = node.value.list in
    let body = node.value.body in
    let inner = list_all (λ i. nat_lt i n) body.items in
    let p = both_true (nat_lt first j) (second_within j second && (nat_lt list l && inner)) h in
    let q = both_true (second_within j second) (nat_lt list l && inner) p.1 in
    let r = both_true (nat_lt list l) inner q.1 in
    and_both (nat_lt first k) (second_within k second && (nat_lt list m && inner)) (lt_wider first j k e p.0)
    (and_both (second_within k second) (nat_lt list m && inner) (second_wider j k second e q.0)
    (and_both (nat_lt list m) inner (lt_wider list l m f r.0) r.1))

all_wider : (j k l m n : ℕ) (xs : List StatementNode) → j ≤ k → l ≤ m → IsTrue (all_placed j l n xs) → IsTrue (all_placed k m n xs)
all_wider j k l m n [] e f h = h
all_wider j k l m n (x ∷ xs) e f h =
    let p = both_true (statement_within j l n x) (all_placed j l (n + 1) xs) h in
    and_both (statement_within k m n x) (all_placed k m (n + 1) xs) (statement_wider j k l m n x e f p.0)
    (all_wider j k l m (n + 1) xs e f p.1)

-- statements stay placed where names and expressions are put behind the others
pub placed_wider : (old new : Draft) (xs : List StatementNode) → Grows old new
    → IsTrue (all_placed (length old.names) (length old.nodes.items) 0 xs)
    → IsTrue (all_placed (length new.names) (length new.nodes.items) 0 xs)
placed_wider old new xs g h =
    let more = length_begins (trees_in old) (trees_in new) g.trees in
    all_wider (length old.names) (length new.names) (length old.nodes.items) (length new.nodes.items) 0 xs
    (length_begins old.names new.names g.names)
    (omega (arith, more, length-trees old.names old.nodes.items, length-trees new.names new.nodes.items)) h

length-from : (names : List (List ℕ)) (ts : List ExpressionTree) (done : List StatementTree) (xs : List StatementNode)
    → length (fold (with_statement names ts) done xs) ≡ length done + length xs
length-from names ts done [] = omega arith
length-from names ts done (x ∷ xs) =
    let more : length (done ++ statement_tree names ts done x ∷ [])
    ≡ length done + 1 = length-append done (statement_tree names ts done x ∷ []) in
    let rest = length-from names ts (done ++ statement_tree names ts done x ∷ []) xs in
    omega (arith, more, rest)

pub length-statements : (names : List (List ℕ)) (ts : List ExpressionTree) (xs : List StatementNode)
    → length (statement_trees names ts xs) ≡ length xs
length-statements names ts xs = let h = length-from names ts [] xs in omega (arith, h)

placed_from : (k l n : ℕ) (xs : List StatementNode) (x : StatementNode) (m : ℕ) → m ≡ n + length xs → IsTrue (all_placed k l n xs)
    → IsTrue (statement_within k l m x) → IsTrue (all_placed k l n (xs ++ x ∷ []))
placed_from k l n [] x m e h w = let here : m ≡ n = omega (arith, e) in and_both (statement_within k l n x) true
    (subst (λ i. IsTrue (statement_within k l i x)) here w) refl
placed_from k l n (y ∷ ys) x m e h w =
    let p = both_true (statement_within k l n y) (all_placed k l (n + 1) ys) h in
    and_both (statement_within k l n y) (all_placed k l (n + 1) (ys ++ x ∷ [])) p.0
    (placed_from k l (n + 1) ys x m (omega (arith, e)) p.1 w)

placed_chosen : (b : Bool) (k l n : ℕ) (xs : List StatementNode) (x : StatementNode) → n ≡ length xs → IsTrue (all_placed k l 0 xs)
    → IsTrue (statement_within k l n x) → IsTrue (all_placed k l 0 (if b then xs ++ x ∷ [] else xs))
placed_chosen true k l n xs x e h w = placed_from k l 0 xs x n (omega (arith, e)) h w
placed_chosen false k l n xs x e h w = h

-- a statement behind its parts, where memory for it is there
pub placed_put : (b : Bool) (d : Draft) (old new : List StatementNode) (x : StatementNode) → new ≡ (if b then old ++ x ∷ [] else old)
    → IsTrue (all_placed (length d.names) (length d.nodes.items) 0 old)
    → IsTrue (statement_within (length d.names) (length (trees_in d)) (length (statement_trees d.names (trees_in d) old)) x)
    → IsTrue (all_placed (length d.names) (length d.nodes.items) 0 new)
placed_put b d old new x e h w =
    let m = length d.nodes.items in
    let n = length (statement_trees d.names (trees_in d) old) in
    subst (λ l. IsTrue (all_placed (length d.names) m 0 l)) (sym e)
    (placed_chosen b (length d.names) m n old x (length-statements d.names (trees_in d) old) h
    (subst (λ i. IsTrue (statement_within (length d.names) i n x)) (length-trees d.names d.nodes.items) w))

pub statements_push : (names : List (List ℕ)) (ts : List ExpressionTree) (old new : List StatementNode) (x : StatementNode) → new
    ≡ old ++ x ∷ [] → statement_trees names ts new ≡ with_statement names ts (statement_trees names ts old) x
statements_push names ts old new x e = ap (statement_trees names ts) e ∙ fold_push (with_statement names ts) [] old x

-- the statement that was put last
pub last_within : (names : List (List ℕ)) (ts : List ExpressionTree) (old new : List StatementNode) (x : StatementNode) (i : ℕ) → new
    ≡ old ++ x ∷ [] → i ≡ length old → IsTrue (nat_lt i (length (statement_trees names ts new)))
last_within names ts old new x i e at =
    let more : length (old ++ x ∷ []) ≡ length old + 1 = length-append old (x ∷ []) in
    is_less i (length (statement_trees names ts new)) (omega (arith, length-statements names ts new, ap length e, more, at))

pub last_is : (names : List (List ℕ)) (ts : List ExpressionTree) (old new : List StatementNode) (x : StatementNode) (i : ℕ) → new
    ≡ old ++ x ∷ [] → i ≡ length old
    → statement_at (statement_trees names ts new) i ≡ statement_tree names ts (statement_trees names ts old) x
last_is names ts old new x i e at =
    let ss = statement_trees names ts old in
    let t = statement_tree names ts ss x in
    ap (λ l. statement_at l i) (statements_push names ts old new x e)
    ∙ ap (λ k. get_or (ss ++ t ∷ []) k (BreakTree 0)) (at ∙ sym (length-statements names ts old))
    ∙ at_end ss t (BreakTree 0)

-- a name keeps its number
pub name_kept : (old new : List (List ℕ)) (i : ℕ) (name : List ℕ) → IsFront old new → IsTrue (nat_lt i (length old)) → name_at old i
    ≡ name → IsTrue (nat_lt i (length new)) × (name_at new i ≡ name)
name_kept old new i name b h e = (
  lt_wider i (length old) (length new) (length_begins old new b) h,
  ap (λ l. name_at l i) b.is
      ∙ name_same old b.more i h ∙ e,
)

-- more names change nothing of a file's code
pub code_kept : (names more : List (List ℕ)) (k : ℕ) (nodes : List Node) (xs : List StatementNode) → k ≤ length names
    → IsTrue (all_within k 0 nodes) → IsTrue (all_placed k (length nodes) 0 xs)
    → statement_trees (names ++ more) (trees (names ++ more) nodes) xs ≡ statement_trees names (trees names nodes) xs
code_kept names more k nodes xs l h p =
    let ts = trees names nodes in
    let same : trees (names ++ more) nodes ≡ ts = trees_kept names (names ++ more) nodes record { more = more; is = refl }
    (nodes_wider k (length names) 0 nodes l h) in
    ap (λ us. statement_trees (names ++ more) us xs) (same ∙ sym (append-nil ts))
    ∙ kept_from names more ts [] 0 [] xs (all_wider k (length names) (length nodes) (length ts) 0 xs l
    (omega (arith, length-trees names nodes)) p)
