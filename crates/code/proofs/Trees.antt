-- Trees of nodes, as names and nodes are put behind the others.
use Rattle.std.proofs.Common.{◌≡◌, ℕ, zero, suc, ◌+◌, ◌<◌, ◌≤◌, Bool, true, false, List, [], ◌∷◌, ◌++◌, length, length-append, get_or, fold}
use Rattle.std.proofs.Common.{append-nil, refl, sym, ap, subst, ◌∙◌, arith}
use Rattle.std.specs.Prelude.{nat_lt, ◌&&◌, IsTrue, if◌then◌else◌}
use Rattle.std.proofs.lemmas.Bool.Decides.{nat_tests}
use Rattle.std.proofs.lemmas.List.Sums.{fold_push}
use Rattle.syntax.specs.ExpressionTree.{ExpressionTree, NameTree}
use Rattle.code.specs.Nodes.{tree_of, with_node, trees, within, all_within}
use Rattle.code.specs.Draft.{IsFront, Stands}
use Rattle.code.specs.declared.node.Node.{Node}
use Rattle.code.specs.declared.node.Node.TheVariants as flat

pub both_true : (a b : Bool) → IsTrue (a && b) → IsTrue a × IsTrue b
both_true true true h = (h, h)
both_true true false h = absurd cc
both_true false b h = absurd cc

pub and_both : (a b : Bool) → IsTrue a → IsTrue b → IsTrue (a && b)
and_both true b h g = g
and_both false b h g = absurd cc

pub less : (j n : ℕ) → IsTrue (nat_lt j n) → j < n
less j n h = grind (arith, nat_tests)

pub is_less : (j n : ℕ) → j < n → IsTrue (nat_lt j n)
is_less j n h = grind (arith, nat_tests)

pub at_front : {A : Type 0} (xs ys : List A) (i : ℕ) (d : A) → i < length xs → get_or (xs ++ ys) i d ≡ get_or xs i d
at_front [] ys i d l = absurd (omega arith)
at_front (x ∷ xs) ys zero d l = refl
at_front (x ∷ xs) ys (suc i) d l = at_front xs ys i d (omega arith)

length-from : (names : List (List ℕ)) (done : List ExpressionTree) (nodes : List Node) → length (fold (with_node names) done nodes)
    ≡ length done + length nodes
length-from names done [] = omega arith
length-from names done (n ∷ ns) =
    let more : length (done ++ tree_of names done n ∷ []) ≡ length done + 1 = length-append done (tree_of names done n ∷ []) in
    let rest = length-from names (done ++ tree_of names done n ∷ []) ns in
    omega (arith, more, rest)

pub length-trees : (names : List (List ℕ)) (nodes : List Node) → length (trees names nodes) ≡ length nodes
length-trees names nodes = let h = length-from names [] nodes in omega (arith, h)

pub trees_push : (names : List (List ℕ)) (nodes : List Node) (n : Node) → trees names (nodes ++ n ∷ [])
    ≡ with_node names (trees names nodes) n
trees_push names nodes n = fold_push (with_node names) [] nodes n

-- more names change no tree
tree_kept : (names more : List (List ℕ)) (m : ℕ) (ts : List ExpressionTree) (n : Node) → IsTrue (within (length names) m n)
    → tree_of (names ++ more) ts n ≡ tree_of names ts n
tree_kept names more m ts (flat.Name number line) h = ap (λ name. NameTree name line)
    (at_front names more number [] (less number (length names) h))
tree_kept names more m ts (flat.Literal line node) h = refl
tree_kept names more m ts (flat.List items line) h = refl
tree_kept names more m ts (flat.Dictionary es line) h = refl
tree_kept names more m ts (flat.Call call line) h = refl
tree_kept names more m ts (flat.Postfix first ls line) h = refl
tree_kept names more m ts (flat.Prefix prefix value line) h = refl
tree_kept names more m ts (flat.Chain first others line) h = refl
tree_kept names more m ts (flat.Ternary test one other line) h = refl

kept_from : (names more : List (List ℕ)) (m : ℕ) (ts : List ExpressionTree) (nodes : List Node)
    → IsTrue (all_within (length names) m nodes) → fold (with_node (names ++ more)) ts nodes ≡ fold (with_node names) ts nodes
kept_from names more m ts [] h = refl
kept_from names more m ts (n ∷ ns) h =
    let p = both_true (within (length names) m n) (all_within (length names) (m + 1) ns) h in
    ap (λ t. fold (with_node (names ++ more)) (ts ++ t ∷ []) ns) (tree_kept names more m ts n p.0)
    ∙ kept_from names more (m + 1) (ts ++ tree_of names ts n ∷ []) ns p.1

pub trees_kept : (old new : List (List ℕ)) (nodes : List Node) → IsFront old new → IsTrue (all_within (length old) 0 nodes)
    → trees new nodes ≡ trees old nodes
trees_kept old new nodes b h = ap (λ names. trees names nodes) b.is ∙ kept_from old b.more 0 [] nodes h

within_wider : (j k n : ℕ) (x : Node) → j ≤ k → IsTrue (within j n x) → IsTrue (within k n x)
within_wider j k n (flat.Name number line) l h = is_less number k (let g = less number j h in omega arith)
within_wider j k n (flat.Literal line node) l h = h
within_wider j k n (flat.List items line) l h = h
within_wider j k n (flat.Dictionary es line) l h = h
within_wider j k n (flat.Call call line) l h = h
within_wider j k n (flat.Postfix first ls line) l h = h
within_wider j k n (flat.Prefix prefix value line) l h = h
within_wider j k n (flat.Chain first others line) l h = h
within_wider j k n (flat.Ternary test one other line) l h = h

pub all_wider : (j k n : ℕ) (xs : List Node) → j ≤ k → IsTrue (all_within j n xs) → IsTrue (all_within k n xs)
all_wider j k n [] l h = h
all_wider j k n (x ∷ xs) l h =
    let p = both_true (within j n x) (all_within j (n + 1) xs) h in
    and_both (within k n x) (all_within k (n + 1) xs) (within_wider j k n x l p.0) (all_wider j k (n + 1) xs l p.1)

pub length_begins : {A : Type 0} (old new : List A) → IsFront old new → length old ≤ length new
length_begins old new b = let e = ap length b.is ∙ length-append old b.more in omega (arith, e)

-- nodes stay ordered where names are put behind the others
pub ordered_wider : (old new : List (List ℕ)) (nodes : List Node) → IsFront old new → IsTrue (all_within (length old) 0 nodes)
    → IsTrue (all_within (length new) 0 nodes)
ordered_wider old new nodes b h = all_wider (length old) (length new) 0 nodes (length_begins old new b) h

ordered_from : (k n : ℕ) (xs : List Node) (x : Node) (m : ℕ) → m ≡ n + length xs → IsTrue (all_within k n xs) → IsTrue (within k m x)
    → IsTrue (all_within k n (xs ++ x ∷ []))
ordered_from k n [] x m e h w = let here : m ≡ n = omega (arith, e) in and_both (within k n x) true
    (subst (λ i. IsTrue (within k i x)) here w) refl
ordered_from k n (y ∷ ys) x m e h w =
    let p = both_true (within k n y) (all_within k (n + 1) ys) h in
    and_both (within k n y) (all_within k (n + 1) (ys ++ x ∷ [])) p.0 (ordered_from k (n + 1) ys x m (omega (arith, e)) p.1 w)

-- a node behind its parts
pub ordered_push : (names : List (List ℕ)) (nodes : List Node) (x : Node) → IsTrue (all_within (length names) 0 nodes)
    → IsTrue (within (length names) (length (trees names nodes)) x) → IsTrue (all_within (length names) 0 (nodes ++ x ∷ []))
ordered_push names nodes x h w = ordered_from (length names) 0 nodes x (length (trees names nodes))
    (omega (arith, length-trees names nodes)) h w

ordered_chosen : (b : Bool) (names : List (List ℕ)) (nodes : List Node) (x : Node) → IsTrue (all_within (length names) 0 nodes)
    → IsTrue (within (length names) (length (trees names nodes)) x)
    → IsTrue (all_within (length names) 0 (if b then nodes ++ x ∷ [] else nodes))
ordered_chosen true names nodes x h w = ordered_push names nodes x h w
ordered_chosen false names nodes x h w = h

-- where memory for it is there
pub ordered_put : (b : Bool) (names : List (List ℕ)) (old new : List Node) (x : Node) → new ≡ (if b then old ++ x ∷ [] else old)
    → IsTrue (all_within (length names) 0 old) → IsTrue (within (length names) (length (trees names old)) x)
    → IsTrue (all_within (length names) 0 new)
ordered_put b names old new x e h w = subst (λ l. IsTrue (all_within (length names) 0 l)) (sym e) (ordered_chosen b names old x h w)

begins_chosen : (b : Bool) (names : List (List ℕ)) (nodes : List Node) (x : Node)
    → IsFront (trees names nodes) (trees names (if b then nodes ++ x ∷ [] else nodes))
begins_chosen true names nodes x = record { more = tree_of names (trees names nodes) x ∷ []; is = trees_push names nodes x }
begins_chosen false names nodes x = record { more = []; is = sym (append-nil (trees names nodes)) }

pub at_end : {A : Type 0} (xs : List A) (t d : A) → get_or (xs ++ t ∷ []) (length xs) d ≡ t
at_end [] t d = refl
at_end (x ∷ xs) t d = at_end xs t d

-- the node that was put last
pub stands_last : (names : List (List ℕ)) (old new : List Node) (x : Node) (i : ℕ) → new ≡ old ++ x ∷ [] → i
    ≡ length (trees names old) → Stands (trees names new) i (tree_of names (trees names old) x)
stands_last names old new x i e at =
    let ts = trees names old in
    let t = tree_of names ts x in
    let all : trees names new ≡ ts ++ t ∷ [] = ap (trees names) e ∙ trees_push names old x in
    let more : length (ts ++ t ∷ []) ≡ length ts + 1 = length-append ts (t ∷ []) in
    record {
      within = is_less i (length (trees names new)) (omega (arith, ap length all, more, at));
      is = ap (λ (l : List ExpressionTree). get_or l i (NameTree [] 0)) all ∙ ap (λ k. get_or (ts ++ t ∷ []) k (NameTree [] 0)) at
          ∙ at_end ts t (NameTree [] 0);
    }
