use Rattle.std.proofs.Common.{◌<◌, ◌≤◌, ℕ, IsTrue, List, length, get_or, map, option_map, sym, ap, subst, refl, ◌∙◌}
use Rattle.std.specs.Prelude.{nat_lt, ◌&&◌}
use Rattle.std.specs.List.{list_all}
use Rattle.code.specs.Nodes.{tree_at}
use Rattle.code.specs.Statements.{branch_at, branch_within, name_at, second_within}
use Rattle.code.specs.declared.code.Code.{Code}
use Rattle.code.specs.declared.node.BranchNode.{BranchNode}
use Rattle.code.specs.declared.node.ForeachNode.{ForeachNode}
use Rattle.code.specs.declared.node.IfNode.{IfNode}
use Rattle.code.specs.declared.node.StatementNode.{StatementNode}
use Rattle.code.specs.declared.node.StatementNode.TheVariants as flat
use Rattle.code.proofs.Trees.{both_true, less}
use Rattle.syntax.specs.Tree.{StatementTree, branches}
use Rattle.world.specs.Plan.{next, ruled}
use Rattle.interp.specs.Bounds.{bounds}
use Rattle.expressions.specs.Codes.{block_by, expressions_by, statements_by}
use Rattle.interp.specs.Blocks.{branch_or, part_of}
use Rattle.interp.specs.Expressions.{value_of}
use Rattle.interp.specs.Folders.{folder}
use Rattle.interp.specs.Frames.{above_branch, behind_all, one_round, round_by}
use Rattle.interp.specs.Parts.{above}
use Rattle.interp.specs.Statements.{branches_of, do_all, does, expression_statement, rounds_within}
use Rattle.expressions.specs.Rounds.{loop_rounds}
use Rattle.interp.specs.declared.block.Block.TheVariants.{Part}
use Rattle.interp.proofs.Spelling.{branches_reach, node_is, parts_of, spelled}
use Rattle.interp.proofs.Halting.{begun_as}
use Rattle.interp.proofs.Stack.{made_as}
use Rattle.interp.proofs.Doing.{deep_as, deep_only}
use Rattle.interp.proofs.evaluator.Evaluator.begin_statement.Goals as goal

pub begin_expression-requires-clause-here : goal.begin_expression-requires-clause-here
begin_expression-requires-clause-here g c =
    let code = c.args.code.now.value in
    let at = c.index.ensures ∙ ap (λ (d : Code). get_or d.statements.items c.args.number c.index.result.now) c.deref.ensures in
    let node = flat.Expression c.in-Expression.value c.in-Expression.line in
    let parts = parts_of code c.args.number c.index.result.now node c.requires.there at c.in-Expression.is in
    subst (λ (d : Code). c.in-Expression.value < length d.nodes.items) (sym c.deref-in-Expression.ensures) (less c.in-Expression.value (length code.nodes.items) parts)

pub begin_branch-requires-clause-here : goal.begin_branch-requires-clause-here
begin_branch-requires-clause-here g c =
    let code = c.args.code.now.value in
    let at = c.index.ensures ∙ ap (λ (d : Code). get_or d.statements.items c.args.number c.index.result.now) c.deref.ensures in
    let node = flat.If c.in-If.node in
    let parts = parts_of code c.args.number c.index.result.now node c.requires.there at c.in-If.is in
    let m = length code.nodes.items in
    let n = c.args.number in
    let l = c.in-If.node.value in
    subst (λ (bs : List BranchNode). above above_branch bs ≤ m) (sym (c.deref-in-If.ensures.value ∙ ap (λ (x : IfNode). x.branches.items) c.deref-node.ensures))
    (branches_reach m n l.branches.items (both_true (list_all (branch_within m n) l.branches.items) (list_all (λ i. nat_lt i n) l.otherwise.items) parts).0)

pub begin_loop-requires-clause-here : goal.begin_loop-requires-clause-here
begin_loop-requires-clause-here g c =
    let code = c.args.code.now.value in
    let at = c.index.ensures ∙ ap (λ (d : Code). get_or d.statements.items c.args.number c.index.result.now) c.deref.ensures in
    let node = flat.Foreach c.in-Foreach.node in
    let parts = parts_of code c.args.number c.index.result.now node c.requires.there at c.in-Foreach.is in
    let k = code.names in
    let m = length code.nodes.items in
    let l = c.in-Foreach.node.value in
    let p = both_true (nat_lt l.first k) (second_within k l.second && (nat_lt l.list m && list_all (λ i. nat_lt i c.args.number) l.body.items)) parts in
    let q = both_true (second_within k l.second) (nat_lt l.list m && list_all (λ i. nat_lt i c.args.number) l.body.items) p.1 in
    let r = both_true (nat_lt l.list m) (list_all (λ i. nat_lt i c.args.number) l.body.items) q.1 in
    subst (λ (x : ForeachNode). x.list < m) (sym c.deref-node-in-Foreach.ensures) (less l.list m r.0)

pub begin_loop-requires-clause-first : goal.begin_loop-requires-clause-first
begin_loop-requires-clause-first g c =
    let code = c.args.code.now.value in
    let at = c.index.ensures ∙ ap (λ (d : Code). get_or d.statements.items c.args.number c.index.result.now) c.deref.ensures in
    let node = flat.Foreach c.in-Foreach.node in
    let parts = parts_of code c.args.number c.index.result.now node c.requires.there at c.in-Foreach.is in
    let k = code.names in
    let m = length code.nodes.items in
    let l = c.in-Foreach.node.value in
    let p = both_true (nat_lt l.first k) (second_within k l.second && (nat_lt l.list m && list_all (λ i. nat_lt i c.args.number) l.body.items)) parts in
    let q = both_true (second_within k l.second) (nat_lt l.list m && list_all (λ i. nat_lt i c.args.number) l.body.items) p.1 in
    let r = both_true (nat_lt l.list m) (list_all (λ i. nat_lt i c.args.number) l.body.items) q.1 in
    subst (λ (x : ForeachNode). IsTrue (nat_lt x.first k)) (sym c.deref-node-in-Foreach.ensures) p.0

pub begin_loop-requires-clause-second : goal.begin_loop-requires-clause-second
begin_loop-requires-clause-second g c =
    let code = c.args.code.now.value in
    let at = c.index.ensures ∙ ap (λ (d : Code). get_or d.statements.items c.args.number c.index.result.now) c.deref.ensures in
    let node = flat.Foreach c.in-Foreach.node in
    let parts = parts_of code c.args.number c.index.result.now node c.requires.there at c.in-Foreach.is in
    let k = code.names in
    let m = length code.nodes.items in
    let l = c.in-Foreach.node.value in
    let p = both_true (nat_lt l.first k) (second_within k l.second && (nat_lt l.list m && list_all (λ i. nat_lt i c.args.number) l.body.items)) parts in
    let q = both_true (second_within k l.second) (nat_lt l.list m && list_all (λ i. nat_lt i c.args.number) l.body.items) p.1 in
    let r = both_true (nat_lt l.list m) (list_all (λ i. nat_lt i c.args.number) l.body.items) q.1 in
    subst (λ (x : ForeachNode). IsTrue (second_within k x.second)) (sym c.deref-node-in-Foreach.ensures) q.0

pub returns-in-Expression-clause-gives : goal.returns-in-Expression-clause-gives
returns-in-Expression-clause-gives g c = λ few files rests table hold stacked made.
    let code = c.args.code.now.value in
    let at = c.index.ensures ∙ ap (λ (d : Code). get_or d.statements.items c.args.number c.index.result.now) c.deref.ensures in
    let node = flat.Expression c.in-Expression.value c.in-Expression.line in
    let tree = spelled table code c.args.number c.index.result.now node c.requires.there at c.in-Expression.is in
    let whole = ap (λ (t : StatementTree). behind_all rests (does (folder (bounds few c.args.left)) few t)) tree in
    begun_as (ap (λ (d : Code). behind_all rests (expression_statement (folder (bounds few c.args.left)) (tree_at (expressions_by table d) c.in-Expression.value))) c.deref-in-Expression.ensures ∙ whole)
    (c.begin_expression.ensures.gives few files rests table hold stacked (made_as (sym c.deref-in-Expression.ensures) made))

pub returns-in-If-clause-gives : goal.returns-in-If-clause-gives
returns-in-If-clause-gives g c = λ few files rests table hold stacked made.
    let code = c.args.code.now.value in
    let at = c.index.ensures ∙ ap (λ (d : Code). get_or d.statements.items c.args.number c.index.result.now) c.deref.ensures in
    let node = flat.If c.in-If.node in
    let tree = spelled table code c.args.number c.index.result.now node c.requires.there at c.in-If.is in
    let whole = ap (λ (t : StatementTree). behind_all rests (does (folder (bounds few c.args.left)) few t)) tree in
    let is = node_is code c.args.number c.index.result.now node c.requires.there at c.in-If.is in
    let otherwise = c.in-If.node.value.otherwise.items in
    let opened = c.deref-in-If.ensures.value ∙ ap (λ (x : IfNode). x.branches.items) c.deref-node.ensures in
    let same = λ (part : ℕ). ap (λ (x : StatementNode). part_of x part) is ∙ ap (λ (bs : List BranchNode). branch_or otherwise bs part) (sym opened) in
    begun_as (ap (λ (bs : List BranchNode). behind_all rests (branches_of (folder (bounds few c.args.left)) few (branches (map (branch_at (expressions_by table code) (statements_by table code)) bs))
    (do_all (folder (bounds few c.args.left)) few (block_by table code otherwise)))) opened ∙ whole)
    (c.begin_branch.ensures.gives few otherwise same files rests table hold stacked made)

pub returns-in-Foreach-clause-gives : goal.returns-in-Foreach-clause-gives
returns-in-Foreach-clause-gives g c = λ few files rests table hold stacked made.
    let code = c.args.code.now.value in
    let at = c.index.ensures ∙ ap (λ (d : Code). get_or d.statements.items c.args.number c.index.result.now) c.deref.ensures in
    let node = flat.Foreach c.in-Foreach.node in
    let tree = spelled table code c.args.number c.index.result.now node c.requires.there at c.in-Foreach.is in
    let whole = ap (λ (t : StatementTree). behind_all rests (does (folder (bounds few c.args.left)) few t)) tree in
    let is = node_is code c.args.number c.index.result.now node c.requires.there at c.in-Foreach.is in
    let l = c.in-Foreach.node.value in
    begun_as (ap (λ (x : ForeachNode). behind_all rests (next (ruled (value_of (folder (bounds few c.args.left)) (tree_at (expressions_by table code) x.list)))
    (λ d. rounds_within few x.line (round_by table code (bounds few c.args.left) record { line = x.line; first = x.first; second = x.second; body = Part c.args.number 0 })
    (loop_rounds (option_map (name_at table) x.second) d)))) c.deref-node-in-Foreach.ensures
    ∙ ap (λ (ns : List ℕ). behind_all rests (next (ruled (value_of (folder (bounds few c.args.left)) (tree_at (expressions_by table code) l.list)))
    (λ d. rounds_within few l.line (one_round (bounds few c.args.left) l.line (name_at table l.first) (option_map (name_at table) l.second) (block_by table code ns)) (loop_rounds (option_map (name_at table) l.second) d)))) (ap (λ (x : StatementNode). part_of x 0) is) ∙ whole)
    (c.begin_loop.ensures.gives few files rests table hold stacked made)

pub unreachable-requires : goal.unreachable-requires
unreachable-requires g c =
    let code = c.args.code.now.value in
    let at = c.index.ensures ∙ ap (λ (d : Code). get_or d.statements.items c.args.number c.index.result.now) c.deref.ensures in
    deep_only c.index.result.now (deep_as (sym (node_is code c.args.number c.index.result.now c.index.result.now c.requires.there at refl)) c.requires.deep) c.in_default.not-If c.in_default.not-Foreach c.in_default.not-Expression
