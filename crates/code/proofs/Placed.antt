-- Parts of statements stay what they are as a file's code grows.
use Rattle.std.proofs.Common.{◌≡◌, ℕ, ◌+◌, ◌<◌, Bool, true, false, List, [], ◌∷◌, ◌++◌, length, map, take, get_or, refl, sym, ap, subst}
use Rattle.std.proofs.Common.{◌∙◌, Option, Result, IfOk, Box, Vec, Global, Bor}
use Rattle.std.specs.Option.{option_map}
use Rattle.syntax.specs.declared.tree.Expression.{Expression}
use Rattle.std.specs.Prelude.{nat_lt, ◌&&◌, IsTrue}
use Rattle.std.specs.List.{list_all}
use Rattle.std.specs.declared.alloc.AllocError.{AllocError}
use Rattle.std.proofs.lemmas.List.{map_push}
use Rattle.std.proofs.lemmas.List.Folds.{list_all-append}
use Rattle.syntax.specs.ExpressionTree.{ExpressionTree, expression_of}
use Rattle.syntax.specs.Tree.{AppendTree, AssignTree, BreakTree, ContinueTree, ValueTree, StatementTree, BranchTree, IfTree, ForeachTree}
use Rattle.syntax.specs.Tree.{statement_of, branch_of, statement_step, branch_step, statements, branches}
use Rattle.syntax.specs.declared.tree.Statement.{Statement}
use Rattle.syntax.specs.declared.tree.Statement.TheVariants as Variants
use Rattle.syntax.specs.declared.tree.Statement.TheOpen as Open
use Rattle.syntax.specs.declared.tree.Statement.TheFolds.{fold_out-Branch, fold-roll-Statement}
use Rattle.syntax.specs.declared.tree.Branch.{Branch}
use Rattle.code.specs.declared.file_draft.FileDraft.{FileDraft}
use Rattle.code.specs.declared.node.BranchNode.{BranchNode}
use Rattle.code.specs.declared.node.ForeachNode.{ForeachNode}
use Rattle.code.specs.declared.node.IfNode.{IfNode}
use Rattle.code.specs.declared.node.StatementNode.TheVariants as flat
use Rattle.code.specs.Nodes.{tree_at}
use Rattle.code.specs.Statements.{name_at, set_node, statement_at, statement_tree, statement_within, branch_at, branch_within}
use Rattle.code.specs.Statements.{second_within}
use Rattle.syntax.specs.ReadingStatements.{set_tree}
use Rattle.code.specs.Draft.{trees_in}
use Rattle.code.specs.FileDraft.{Extends, IsStatement, AreStatements, AreBranches, statements_in}
use Rattle.code.proofs.Trees.{both_true, and_both, length_begins}
use Rattle.code.proofs.Parts.{begins_trans, grows_trans, lt_wider, tree_same, wanted_more}
use Rattle.code.proofs.Lists.{all_imply, map_alike}
use Rattle.code.proofs.StatementTrees.{statement_same}

pub extends_trans : (a b c : FileDraft) → Extends a b → Extends b c → Extends a c
extends_trans a b c p q = record {
  draft = grows_trans a.draft b.draft c.draft p.draft q.draft;
  statements = begins_trans (statements_in a) (statements_in b) (statements_in c) p.statements q.statements;
}

number_wider : (d e : FileDraft) → Extends d e → (i : ℕ) → IsTrue (nat_lt i (length (statements_in d)))
    → IsTrue (nat_lt i (length (statements_in e)))
number_wider d e x i h = lt_wider i (length (statements_in d)) (length (statements_in e))
    (length_begins (statements_in d) (statements_in e) x.statements) h

number_same : (d e : FileDraft) → Extends d e → (i : ℕ) → IsTrue (nat_lt i (length (statements_in d)))
    → statement_at (statements_in e) i ≡ statement_at (statements_in d) i
number_same d e x i h = ap (λ l. statement_at l i) x.statements.is ∙ statement_same (statements_in d) x.statements.more i h

pub are_more : (d e : FileDraft) (numbers : List ℕ) (wanted : List StatementTree) → Extends d e → AreStatements d numbers wanted
    → AreStatements e numbers wanted
are_more d e numbers wanted x a = record {
  within = all_imply (λ i. nat_lt i (length (statements_in d))) (λ i. nat_lt i (length (statements_in e))) (number_wider d e x) numbers
      a.within;
  are = map_alike (λ i. nat_lt i (length (statements_in d))) (statement_at (statements_in e)) (statement_at (statements_in d))
      (number_same d e x) numbers a.within ∙ a.are;
}

-- one round of a loop over statements
pub are_step : (xs : List Statement) (i : ℕ) (a : Statement) (d e : FileDraft) (numbers new : List ℕ) (n : ℕ) → i < length xs → a
    ≡ get_or xs i a → new ≡ numbers ++ n ∷ [] → Extends d e
    → AreStatements d numbers (map statement_of (take i xs)) → IsStatement e n (statement_of a)
    → AreStatements e new (map statement_of (take (i + 1) xs))
are_step xs i a d e numbers new n l is made x p s =
    let q = are_more d e numbers (map statement_of (take i xs)) x p in
    let test = λ (j : ℕ). nat_lt j (length (statements_in e)) in
    record {
      within = subst (λ l. IsTrue (list_all test l)) (sym made) (subst IsTrue (sym (list_all-append test numbers (n ∷ [])))
          (and_both (list_all test numbers) (test n && true) q.within (and_both (test n) true s.within refl)));
      are = ap (map (statement_at (statements_in e))) made ∙ map_push (statement_at (statements_in e)) numbers n
          ∙ ap (λ l. l ++ statement_at (statements_in e) n ∷ []) q.are
          ∙ ap (λ t. map statement_of (take i xs) ++ t ∷ []) s.is ∙ sym (wanted_more statement_of xs i a l is);
    }

branch_wider : (d e : FileDraft) → Extends d e → (b : BranchNode)
    → IsTrue (branch_within (length (trees_in d.draft)) (length (statements_in d)) b)
    → IsTrue (branch_within (length (trees_in e.draft)) (length (statements_in e)) b)
branch_wider d e x b h =
    let old = length (trees_in d.draft) in
    let new = length (trees_in e.draft) in
    let p = both_true (nat_lt b.condition old) (list_all (λ i. nat_lt i (length (statements_in d))) b.body.items) h in
    and_both (nat_lt b.condition new) (list_all (λ i. nat_lt i (length (statements_in e))) b.body.items)
    (lt_wider b.condition old new (length_begins (trees_in d.draft) (trees_in e.draft) x.draft.trees) p.0)
    (all_imply (λ i. nat_lt i (length (statements_in d))) (λ i. nat_lt i (length (statements_in e))) (number_wider d e x) b.body.items p.1)

branch_same : (d e : FileDraft) → Extends d e → (b : BranchNode)
    → IsTrue (branch_within (length (trees_in d.draft)) (length (statements_in d)) b)
    → branch_at (trees_in e.draft) (statements_in e) b ≡ branch_at (trees_in d.draft) (statements_in d) b
branch_same d e x b h =
    let p = both_true (nat_lt b.condition (length (trees_in d.draft))) (list_all (λ i. nat_lt i (length (statements_in d)))
    b.body.items) h in
    ap (λ t. (t, b.line, statements (map (statement_at (statements_in e)) b.body.items)))
    (ap (λ l. tree_at l b.condition) x.draft.trees.is ∙ tree_same (trees_in d.draft) x.draft.trees.more b.condition p.0)
    ∙ ap (λ l. (tree_at (trees_in d.draft) b.condition, b.line, statements l))
    (map_alike (λ i. nat_lt i (length (statements_in d))) (statement_at (statements_in e)) (statement_at (statements_in d))
    (number_same d e x) b.body.items p.1)

pub branches_more : (d e : FileDraft) (parts : List BranchNode) (wanted : List BranchTree) → Extends d e → AreBranches d parts wanted
    → AreBranches e parts wanted
branches_more d e parts wanted x a =
    let test = branch_within (length (trees_in d.draft)) (length (statements_in d)) in
    record {
      within = all_imply test (branch_within (length (trees_in e.draft)) (length (statements_in e))) (branch_wider d e x) parts a.within;
      are = map_alike test (branch_at (trees_in e.draft) (statements_in e)) (branch_at (trees_in d.draft) (statements_in d))
          (branch_same d e x) parts a.within ∙ a.are;
    }

pub branch_is : (b : Branch) → branch_of b ≡ (expression_of b.condition, b.line, statements (map statement_of b.body.items))
branch_is b = fold_out-Branch StatementTree BranchTree statement_step branch_step b

-- one round of a loop over the parts of an `if`
pub branches_step : (xs : List Branch) (i : ℕ) (a : Branch) (d e : FileDraft) (parts new : List BranchNode) (b : BranchNode)
    → i < length xs → a ≡ get_or xs i a → new ≡ parts ++ b ∷ [] → Extends d e
    → AreBranches d parts (map branch_of (take i xs)) → IsTrue (branch_within (length (trees_in e.draft)) (length (statements_in e)) b)
    → branch_at (trees_in e.draft) (statements_in e) b ≡ branch_of a
    → AreBranches e new (map branch_of (take (i + 1) xs))
branches_step xs i a d e parts new b l is made x p w s =
    let q = branches_more d e parts (map branch_of (take i xs)) x p in
    let test = branch_within (length (trees_in e.draft)) (length (statements_in e)) in
    let at = branch_at (trees_in e.draft) (statements_in e) in
    record {
      within = subst (λ l. IsTrue (list_all test l)) (sym made) (subst IsTrue (sym (list_all-append test parts (b ∷ [])))
          (and_both (list_all test parts) (test b && true) q.within (and_both (test b) true w refl)));
      are = ap (map at) made ∙ map_push at parts b ∙ ap (λ l. l ++ at b ∷ []) q.are ∙ ap (λ t. map branch_of (take i xs) ++ t ∷ []) s
          ∙ sym (wanted_more branch_of xs i a l is);
    }

pub statement_as : (r : Result ℕ AllocError) (d : FileDraft) (s t : StatementTree) → IfOk r (λ n. IsStatement d n s) → s ≡ t
    → IfOk r (λ n. IsStatement d n t)
statement_as r d s t h e = subst (λ v. IfOk r (λ n. IsStatement d n v)) e h

pub if_made : (s : Statement) (line : ℕ) (bs : Vec Branch Global) (os : Vec Statement Global) (ps : List BranchTree)
    (qs : List StatementTree) (a : List Branch) (b : List Statement)
    → s ≡ Variants.If line bs os → a ≡ bs.items → b ≡ os.items → ps ≡ map branch_of a → qs ≡ map statement_of b
    → IfTree line (branches ps) (statements qs) ≡ statement_of s
if_made s line bs os ps qs a b is a_is b_is ps_is qs_is =
    ap (λ l. IfTree line (branches l) (statements qs)) (ps_is ∙ ap (map branch_of) a_is)
    ∙ ap (λ l. IfTree line (branches (map branch_of bs.items)) (statements l)) (qs_is ∙ ap (map statement_of) b_is)
    ∙ sym (ap statement_of (sym (Variants.rolls-If line bs os)) ∙ fold-roll-Statement StatementTree BranchTree statement_step
    branch_step (Open.If line bs os))
    ∙ ap statement_of (sym is)

pub foreach_made : (line list_line : ℕ) (a b : List ℕ) (o p : Option (List ℕ)) (t u : ExpressionTree) (qs rs : List StatementTree)
    → a ≡ b → o ≡ p → t ≡ u → qs ≡ rs
    → ForeachTree line a o t list_line (statements qs) ≡ ForeachTree line b p u list_line (statements rs)
foreach_made line list_line a b o p t u qs rs e f g h =
    ap (λ x. ForeachTree line x o t list_line (statements qs)) e ∙ ap (λ x. ForeachTree line b x t list_line (statements qs)) f
    ∙ ap (λ x. ForeachTree line b p x list_line (statements qs)) g ∙ ap (λ x. ForeachTree line b p u list_line (statements x)) h

-- what stands in a box
pub each_within : (k m n : ℕ) (b : Box ForeachNode Global) (x : ForeachNode) → b.value ≡ x
    → IsTrue (nat_lt x.first k && (second_within k x.second && (nat_lt x.list m && list_all (λ i. nat_lt i n) x.body.items)))
    → IsTrue (statement_within k m n (flat.Foreach b))
each_within k m n b x is h =
    subst (λ (y : ForeachNode). IsTrue (nat_lt y.first k && (second_within k y.second
    && (nat_lt y.list m && list_all (λ i. nat_lt i n) y.body.items)))) (sym is) h

pub each_is : (names : List (List ℕ)) (ts : List ExpressionTree) (ss : List StatementTree) (b : Box ForeachNode Global) (x : ForeachNode)
    → b.value ≡ x → statement_tree names ts ss (flat.Foreach b) ≡ ForeachTree x.line (name_at names x.first)
    (option_map (name_at names) x.second) (tree_at ts x.list) x.list_line (statements (map (statement_at ss) x.body.items))
each_is names ts ss b x is = ap (λ (y : ForeachNode). ForeachTree y.line (name_at names y.first)
    (option_map (name_at names) y.second) (tree_at ts y.list) y.list_line (statements (map (statement_at ss) y.body.items))) is

pub parts_within : (k m n : ℕ) (b : Box IfNode Global) (x : IfNode) → b.value ≡ x
    → IsTrue (list_all (branch_within m n) x.branches.items && list_all (λ i. nat_lt i n) x.otherwise.items)
    → IsTrue (statement_within k m n (flat.If b))
parts_within k m n b x is h =
    subst (λ (y : IfNode). IsTrue (list_all (branch_within m n) y.branches.items && list_all (λ i. nat_lt i n) y.otherwise.items)) (sym is) h

pub parts_are : (names : List (List ℕ)) (ts : List ExpressionTree) (ss : List StatementTree) (b : Box IfNode Global) (x : IfNode)
    → b.value ≡ x → statement_tree names ts ss (flat.If b)
    ≡ IfTree x.line (branches (map (branch_at ts ss) x.branches.items)) (statements (map (statement_at ss) x.otherwise.items))
parts_are names ts ss b x is = ap (λ (y : IfNode). IfTree y.line (branches (map (branch_at ts ss) y.branches.items))
    (statements (map (statement_at ss) y.otherwise.items))) is

pub and_three : (a b c d : Bool) → IsTrue a → IsTrue b → IsTrue c → IsTrue d → IsTrue (a && (b && (c && d)))
and_three a b c d e f g h = and_both a (b && (c && d)) e (and_both b (c && d) f (and_both c d g h))

pub set_within : (adds : Bool) (k m n name line value : ℕ) → IsTrue (nat_lt name k) → IsTrue (nat_lt value m)
    → IsTrue (statement_within k m n (set_node adds name line value))
set_within true k m n name line value h g = and_both (nat_lt name k) (nat_lt value m) h g
set_within false k m n name line value h g = and_both (nat_lt name k) (nat_lt value m) h g

pub set_is : (adds : Bool) (names : List (List ℕ)) (ts : List ExpressionTree) (ss : List StatementTree) (name line value : ℕ)
    (word : List ℕ) (t : ExpressionTree) → name_at names name ≡ word → tree_at ts value ≡ t
    → statement_tree names ts ss (set_node adds name line value) ≡ set_tree adds word line t
set_is true names ts ss name line value word t e f =
    ap (λ w. AppendTree w line (tree_at ts value)) e ∙ ap (λ x. AppendTree word line x) f
set_is false names ts ss name line value word t e f =
    ap (λ w. AssignTree w line (tree_at ts value)) e ∙ ap (λ x. AssignTree word line x) f

-- ---- a statement by its variant

module _ (s : Statement) (line : ℕ) where
  pub assign_made : (name : Bor (List ℕ)) (value : Box Expression Global) → s ≡ Variants.Assign name line value → AssignTree name.now line (expression_of value.value) ≡ statement_of s
  assign_made name value is = sym (ap statement_of is ∙ ap statement_of (sym (Variants.rolls-Assign name line value)) ∙ fold-roll-Statement StatementTree BranchTree statement_step branch_step (Open.Assign name line value))

  pub append_made : (name : Bor (List ℕ)) (value : Box Expression Global) → s ≡ Variants.Append name line value → AppendTree name.now line (expression_of value.value) ≡ statement_of s
  append_made name value is = sym (ap statement_of is ∙ ap statement_of (sym (Variants.rolls-Append name line value)) ∙ fold-roll-Statement StatementTree BranchTree statement_step branch_step (Open.Append name line value))

  pub value_made : (value : Expression) → s ≡ Variants.Expression value line → ValueTree (expression_of value) line ≡ statement_of s
  value_made value is = sym (ap statement_of is ∙ ap statement_of (sym (Variants.rolls-Expression value line)) ∙ fold-roll-Statement StatementTree BranchTree statement_step branch_step (Open.Expression value line))

  pub break_made : s ≡ Variants.Break line → BreakTree line ≡ statement_of s
  break_made is = sym (ap statement_of is ∙ ap statement_of (sym (Variants.rolls-Break line)) ∙ fold-roll-Statement StatementTree BranchTree statement_step branch_step (Open.Break line))

  pub continue_made : s ≡ Variants.Continue line → ContinueTree line ≡ statement_of s
  continue_made is = sym (ap statement_of is ∙ ap statement_of (sym (Variants.rolls-Continue line)) ∙ fold-roll-Statement StatementTree BranchTree statement_step branch_step (Open.Continue line))

  pub each_made : (first : Bor (List ℕ)) (second : Option (Bor (List ℕ))) (round : Box Branch Global) → s ≡ Variants.Foreach line first second round
      → ForeachTree line first.now (option_map (λ n. n.now) second) (branch_of round.value).0 (branch_of round.value).1 (branch_of round.value).2
      ≡ statement_of s
  each_made first second round is = sym (ap statement_of is ∙ ap statement_of (sym (Variants.rolls-Foreach line first second round)) ∙ fold-roll-Statement StatementTree BranchTree statement_step branch_step (Open.Foreach line first second round))
