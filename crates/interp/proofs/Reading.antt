-- The trees of a source's nodes.
use Rattle.std.proofs.Common.{◌≡◌, ℕ, suc, ◌+◌, ◌<◌, ◌≤◌, max, Bool, List, [], ◌∷◌, length, length-append, get_or, IsTrue, sym, ap}
use Rattle.std.proofs.Common.{subst, ◌∙◌, arith}
use Rattle.std.specs.Prelude.{nat_lt, ◌&&◌}
use Rattle.std.specs.List.{list_all}
use Rattle.syntax.specs.ExpressionTree.{ExpressionTree}
use Rattle.code.specs.declared.node.Node.{Node}
use Rattle.code.specs.declared.node.EntryNode.{EntryNode}
use Rattle.code.specs.declared.node.ArgumentNode.{ArgumentNode}
use Rattle.code.specs.declared.node.OperandNode.{OperandNode}
use Rattle.code.specs.declared.node.LinkNode.{LinkNode}
use Rattle.code.specs.declared.node.LinkNode.TheVariants.{Method, Index}
use Rattle.code.specs.Draft.{IsFront}
use Rattle.code.specs.Nodes.{tree_at, tree_of, within, entry_within, argument_within, operand_within, link_within}
use Rattle.code.proofs.CallerLemmas.{node_opens, parts_before}
use Rattle.code.proofs.Trees.{both_true, less, at_front}
use Rattle.interp.specs.Evaluates.{Reads}
use Rattle.interp.specs.Parts.{above, above_number, above_entry, above_argument, above_operand, above_link}
use Rattle.code.specs.declared.code.Code.{Code}
use Rattle.world.proofs.Marks.{front_of_front}

-- the names have grown
pub reads_on : {ts : List ExpressionTree} {s : Code} {old new : List (List ℕ)} → Reads ts s old → IsFront old new → Reads ts s new
reads_on {old = old} {new = new} r f = record { table = r.table; front = front_of_front r.table old new r.front f; known = r.known; are = r.are }

-- the tree of a node has the trees of its parts
pub opened : {ts : List ExpressionTree} {s : Code} {names : List (List ℕ)} (r : Reads ts s names) (i : ℕ) (x n : Node) → i < length s.nodes.items
    → x ≡ get_or s.nodes.items i x → x ≡ n → tree_at ts i ≡ tree_of r.table ts n
opened {ts = ts} {s = s} r i x n l at is =
    ap (λ us. tree_at us i) r.are ∙ node_opens r.table s.names s.nodes.items i x s.ordered l
    ∙ ap (λ us. tree_of r.table us (get_or s.nodes.items i x)) (sym r.are) ∙ ap (tree_of r.table ts) (sym at ∙ is)

-- and these stand before it
pub parts_at : (s : Code) (i : ℕ) (x n : Node) → i < length s.nodes.items → x ≡ get_or s.nodes.items i x → x ≡ n → IsTrue (within s.names i n)
parts_at s i x n l at is =
    subst (λ y. IsTrue (within s.names i y)) (sym at ∙ is) (parts_before s.names s.nodes.items i x s.ordered l)

-- ---- how far parts reach

pub above_all : {X : Type 0} (test : X → Bool) (f : X → ℕ) (n : ℕ) (reach : (x : X) → IsTrue (test x) → f x ≤ n) (xs : List X) → IsTrue (list_all test xs) → above f xs ≤ n
above_all test f n reach [] h = omega arith
above_all test f n reach (x ∷ xs) h =
    let p = both_true (test x) (list_all test xs) h in
    let a : f x ≤ n = reach x p.0 in
    let b : above f xs ≤ n = above_all test f n reach xs p.1 in
    omega arith

pub number_reach : (n i : ℕ) → IsTrue (nat_lt i n) → suc i ≤ n
number_reach n i h = omega (arith, less i n h)

pub numbers_reach : (n : ℕ) (xs : List ℕ) → IsTrue (list_all (λ i. nat_lt i n) xs) → above above_number xs ≤ n
numbers_reach n xs h = above_all (λ i. nat_lt i n) above_number n (number_reach n) xs h

entry_reach : (n : ℕ) (e : EntryNode) → IsTrue (entry_within n e) → above_entry e ≤ n
entry_reach n e h =
    let p = both_true (nat_lt e.key n) (nat_lt e.value n) h in
    let a : e.key < n = less e.key n p.0 in
    let b : e.value < n = less e.value n p.1 in
    omega arith

pub entries_reach : (n : ℕ) (xs : List EntryNode) → IsTrue (list_all (entry_within n) xs) → above above_entry xs ≤ n
entries_reach n xs h = above_all (entry_within n) above_entry n (entry_reach n) xs h

pub arguments_reach : (n : ℕ) (xs : List ArgumentNode) → IsTrue (list_all (argument_within n) xs) → above above_argument xs ≤ n
arguments_reach n xs h = above_all (argument_within n) above_argument n (λ a g. number_reach n a.value g) xs h

pub operands_reach : (n : ℕ) (xs : List OperandNode) → IsTrue (list_all (operand_within n) xs) → above above_operand xs ≤ n
operands_reach n xs h = above_all (operand_within n) above_operand n (λ o g. number_reach n o.value g) xs h

link_reach : (n : ℕ) (l : LinkNode) → IsTrue (link_within n l) → above_link l ≤ n
link_reach n (Method name items) h = arguments_reach n items.items h
link_reach n (Index i) h = number_reach n i h

pub links_reach : (n : ℕ) (xs : List LinkNode) → IsTrue (list_all (link_within n) xs) → above above_link xs ≤ n
links_reach n xs h = above_all (link_within n) above_link n (link_reach n) xs h

-- a first part and others
pub first_reach : {X : Type 0} (n first : ℕ) (f : X → ℕ) (xs : List X) (test : X → Bool) → (IsTrue (list_all test xs) → above f xs ≤ n)
    → IsTrue (nat_lt first n && list_all test xs) → max (suc first) (above f xs) ≤ n
first_reach n first f xs test others h =
    let p = both_true (nat_lt first n) (list_all test xs) h in
    let a : first < n = less first n p.0 in
    let b : above f xs ≤ n = others p.1 in
    omega arith

pub three_reach : (n i j k : ℕ) → IsTrue (nat_lt i n && (nat_lt j n && nat_lt k n)) → max (suc i) (max (suc j) (suc k)) ≤ n
three_reach n i j k h =
    let p = both_true (nat_lt i n) (nat_lt j n && nat_lt k n) h in
    let q = both_true (nat_lt j n) (nat_lt k n) p.1 in
    let a : i < n = less i n p.0 in
    let b : j < n = less j n q.0 in
    let d : k < n = less k n q.1 in
    omega arith

-- the name with a number is what it was when the code was made
pub name_of : {ts : List ExpressionTree} {s : Code} {names : List (List ℕ)} (r : Reads ts s names) (number : ℕ) → IsTrue (nat_lt number s.names)
    → (number < length names) × (get_or names number [] ≡ get_or r.table number [])
name_of {s = s} {names = names} r number h =
    let l : number < length r.table = omega (arith, less number s.names h, r.known) in
    let e : length names ≡ length r.table + length r.front.more = ap length r.front.is ∙ length-append r.table r.front.more in
    (omega (arith, l, e), ap (λ ns. get_or ns number []) r.front.is ∙ at_front r.table r.front.more number [] l)
