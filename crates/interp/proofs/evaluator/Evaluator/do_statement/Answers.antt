use Rattle.std.proofs.Common.{◌<◌, ◌≤◌, ℕ, List, length, map, refl, sym, ap, subst, ◌∙◌, arith, rules}
use Rattle.std.proofs.lemmas.Grind.{common_steps}
use Rattle.std.specs.Prelude.{nat_lt}
use Rattle.std.specs.List.{list_all}
use Rattle.code.specs.Statements.{branch_at, branch_within}
use Rattle.code.specs.declared.node.BranchNode.{BranchNode}
use Rattle.code.specs.declared.node.IfNode.{IfNode}
use Rattle.code.specs.declared.node.StatementNode.{StatementNode}
use Rattle.code.specs.declared.node.StatementNode.TheVariants as flat
use Rattle.code.proofs.Trees.{both_true, less}
use Rattle.syntax.specs.Tree.{StatementTree, branches}
use Rattle.expressions.specs.Codes.{block_by, expressions_by, statements_by}
use Rattle.interp.specs.Blocks.{branch_or, part_of}
use Rattle.interp.specs.Folders.{folder}
use Rattle.interp.specs.Frames.{above_branch}
use Rattle.interp.specs.Parts.{above}
use Rattle.interp.specs.Statements.{branches_of, do_all, does}
use Rattle.interp.specs.declared.flow.Flow.{Flow}
use Rattle.interp.proofs.Coming.{comes_as, comes_halt}
use Rattle.expressions.proofs.Evaluating.{given_as, given_give, given_then, leads_start}
use Rattle.interp.proofs.Spelling.{branches_reach, node_is, parts_of, reads_at, spelled, stated_at}
use Rattle.interp.proofs.Doing.{done_as, done_halt}
use Rattle.interp.proofs.evaluator.Evaluator.do_statement.Goals as goal

pub index-requires-in-Expression : goal.index-requires-in-Expression
index-requires-in-Expression g c =
    let code = c.args.code.now in
    let there : c.in-Expression.value < length code.nodes.items = less c.in-Expression.value (length code.nodes.items)
    (parts_of code c.args.number c.index.result.now (flat.Expression c.in-Expression.value c.in-Expression.line) c.requires.there c.index.ensures c.in-Expression.is) in
    first_of (search rules, grind (arith, common_steps))

pub eval_statement-requires-clause-here : goal.eval_statement-requires-clause-here
eval_statement-requires-clause-here g c =
    let code = c.args.code.now in
    less c.in-Expression.value (length code.nodes.items)
    (parts_of code c.args.number c.index.result.now (flat.Expression c.in-Expression.value c.in-Expression.line) c.requires.there c.index.ensures c.in-Expression.is)

pub returns-in-Call-clause-gives : goal.returns-in-Call-clause-gives
returns-in-Call-clause-gives g c = λ files left table hold made. record { done = leads_start hold }

pub returns-in_err-eval_statement-in-Expression-clause-gives : goal.returns-in_err-eval_statement-in-Expression-clause-gives
returns-in_err-eval_statement-in-Expression-clause-gives g c = λ files left table hold made.
    let code = c.args.code.now in
    let node = flat.Expression c.in-Expression.value c.in-Expression.line in
    let here = less c.in-Expression.value (length code.nodes.items) (parts_of code c.args.number c.index.result.now node c.requires.there c.index.ensures c.in-Expression.is) in
    let plan = ap (λ (t : StatementTree). does (folder left) left.few t) (spelled table code c.args.number c.index.result.now node c.requires.there c.index.ensures c.in-Expression.is) in
    done_as plan (done_halt {view = λ (f : Flow). f} c.from_residual.result c.from_residual.ensures.1
    (comes_as (stated_at (folder left) table code c.in-Expression.value c.index-in-Expression.result.now here c.index-in-Expression.ensures c.in_default-index.not-Call)
    (comes_halt (c.in_err-eval_statement-in-Expression.ensures.gives files left (expressions_by table code) hold (reads_at refl made)) refl)))

pub returns-in_ok-eval_statement-in-Expression-clause-gives : goal.returns-in_ok-eval_statement-in-Expression-clause-gives
returns-in_ok-eval_statement-in-Expression-clause-gives g c = λ files left table hold made.
    let code = c.args.code.now in
    let node = flat.Expression c.in-Expression.value c.in-Expression.line in
    let here = less c.in-Expression.value (length code.nodes.items) (parts_of code c.args.number c.index.result.now node c.requires.there c.index.ensures c.in-Expression.is) in
    let plan = ap (λ (t : StatementTree). does (folder left) left.few t) (spelled table code c.args.number c.index.result.now node c.requires.there c.index.ensures c.in-Expression.is) in
    let e = (c.in_ok-eval_statement-in-Expression.ensures.gives files left (expressions_by table code) hold (reads_at refl made)).comes in
    record {
      done = given_as (stated_at (folder left) table code c.in-Expression.value c.index-in-Expression.result.now here c.index-in-Expression.ensures c.in_default-index.not-Call ∙ plan)
          (given_then e (given_give e.holds refl));
    }

pub branch-self-requires-clause-here : goal.branch-self-requires-clause-here
branch-self-requires-clause-here g c =
    let code = c.args.code.now in
    let parts = parts_of code c.args.number c.index.result.now (flat.If c.in-If.node) c.requires.there c.index.ensures c.in-If.is in
    let m = length code.nodes.items in
    let n = c.args.number in
    let l = c.in-If.node.value in
    subst (λ (bs : List BranchNode). above above_branch bs ≤ m) (sym (c.deref.ensures.value ∙ ap (λ (x : IfNode). x.branches.items) c.deref-node.ensures))
    (branches_reach m n l.branches.items (both_true (list_all (branch_within m n) l.branches.items) (list_all (λ i. nat_lt i n) l.otherwise.items) parts).0)

pub returns-in-If-clause-gives : goal.returns-in-If-clause-gives
returns-in-If-clause-gives g c = λ files left table hold made.
    let code = c.args.code.now in
    let node = flat.If c.in-If.node in
    let plan = ap (λ (t : StatementTree). does (folder left) left.few t) (spelled table code c.args.number c.index.result.now node c.requires.there c.index.ensures c.in-If.is) in
    let is = node_is code c.args.number c.index.result.now node c.requires.there c.index.ensures c.in-If.is in
    let otherwise = c.in-If.node.value.otherwise.items in
    let opened = c.deref.ensures.value ∙ ap (λ (x : IfNode). x.branches.items) c.deref-node.ensures in
    let same = λ (part : ℕ). ap (λ (x : StatementNode). part_of x part) is ∙ ap (λ (bs : List BranchNode). branch_or otherwise bs part) (sym opened) in
    done_as (ap (λ (bs : List BranchNode). branches_of (folder left) left.few (branches (map (branch_at (expressions_by table code) (statements_by table code)) bs))
    (do_all (folder left) left.few (block_by table code otherwise))) opened ∙ plan)
    (c.branch-self.ensures.gives otherwise same files left table hold made)

pub returns-in-Foreach-clause-gives : goal.returns-in-Foreach-clause-gives
returns-in-Foreach-clause-gives g c = λ files left table hold made. record { done = leads_start hold }

pub returns-in_err-do_simple_statement-in_default-clause-gives : goal.returns-in_err-do_simple_statement-in_default-clause-gives
returns-in_err-do_simple_statement-in_default-clause-gives g c = λ files left table hold made.
    done_halt {view = λ (f : Flow). f} c.from_residual-in_err-do_simple_statement-in_default.result c.from_residual-in_err-do_simple_statement-in_default.ensures.1
    (c.in_err-do_simple_statement-in_default.ensures.gives files left table hold made)

pub returns-in_ok-do_simple_statement-in_default-clause-gives : goal.returns-in_ok-do_simple_statement-in_default-clause-gives
returns-in_ok-do_simple_statement-in_default-clause-gives g c = λ files left table hold made.
    record { done = (c.in_ok-do_simple_statement-in_default.ensures.gives files left table hold made).comes }
