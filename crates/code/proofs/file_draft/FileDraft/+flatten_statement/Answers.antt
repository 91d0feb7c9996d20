use Rattle.std.proofs.Common.{refl, map, nat_lt, length, option_map, sym, ap, ◌∙◌}
use Rattle.std.specs.List.{list_all}
use Rattle.syntax.specs.ExpressionTree.{ExpressionTree, expression_of}
use Rattle.syntax.specs.declared.tree.Expression.{Expression}
use Rattle.syntax.specs.declared.tree.Branch.{Branch}
use Rattle.syntax.specs.Tree.{AssignTree, AppendTree, BranchTree, ForeachTree, IfTree, branches, statement_of, branch_of, statements}
use Rattle.code.specs.declared.node.StatementNode.TheVariants as flat
use Rattle.code.specs.Draft.{trees_in}
use Rattle.code.specs.Statements.{statement_at, statement_tree, branch_within}
use Rattle.code.specs.FileDraft.{statements_in}
use Rattle.code.proofs.Parts.{stands_more}
use Rattle.code.proofs.Trees.{and_both}
use Rattle.code.proofs.Placed.{extends_trans, are_step, parts_are, parts_within, branches_step, branches_more, branch_is, statement_as}
use Rattle.code.proofs.Placed.{if_made, assign_made, append_made, value_made, break_made, continue_made, each_made}
use Rattle.code.proofs.file_draft.FileDraft.+flatten_statement.Goals as goal

pub conditional-returns-in_err-branches-clause-extends : goal.conditional-returns-in_err-branches-clause-extends
conditional-returns-in_err-branches-clause-extends t c = c.branches.ensures.extends

pub conditional-returns-in_err-otherwise-clause-extends : goal.conditional-returns-in_err-otherwise-clause-extends
conditional-returns-in_err-otherwise-clause-extends t c =
    extends_trans c.args.self.now c.branches.new.self c.body.new.self c.branches.ensures.extends c.body.ensures.extends

pub conditional-push-requires : goal.conditional-push-requires
conditional-push-requires t c =
    let new = c.body.new.self in
    let parts = branches_more c.branches.new.self new c.in_ok-branches.branches.items (map branch_of c.args.branches.now)
    c.body.ensures.extends c.in_ok-branches.ensures.are in
    parts_within (length new.draft.names) (length (trees_in new.draft)) (length (statements_in new)) c.in_ok-node.node _ c.in_ok-node.ensures.ok
    (and_both (list_all (branch_within (length (trees_in new.draft)) (length (statements_in new))) c.in_ok-branches.branches.items)
    (list_all (λ i. nat_lt i (length (statements_in new))) c.in_ok-otherwise.otherwise.items) parts.within
    c.in_ok-otherwise.ensures.are.within)

pub conditional-returns-in_err-node-clause-extends : goal.conditional-returns-in_err-node-clause-extends
conditional-returns-in_err-node-clause-extends t c =
    extends_trans c.args.self.now c.branches.new.self c.body.new.self c.branches.ensures.extends c.body.ensures.extends

pub conditional-returns-clause-extends : goal.conditional-returns-clause-extends
conditional-returns-clause-extends t c =
    extends_trans c.args.self.now c.body.new.self c.push.new.self
    (extends_trans c.args.self.now c.branches.new.self c.body.new.self c.branches.ensures.extends c.body.ensures.extends) c.push.ensures.extends

pub conditional-returns-clause-is : goal.conditional-returns-clause-is
conditional-returns-clause-is t c =
    let new = c.body.new.self in
    let parts = branches_more c.branches.new.self new c.in_ok-branches.branches.items (map branch_of c.args.branches.now)
    c.body.ensures.extends c.in_ok-branches.ensures.are in
    statement_as c.push.result c.push.new.self
    (statement_tree new.draft.names (trees_in new.draft) (statements_in new)
    (flat.If c.in_ok-node.node))
    (IfTree c.args.line (branches (map branch_of c.args.branches.now)) (statements (map statement_of c.args.otherwise.now))) c.push.ensures.is
    (parts_are new.draft.names (trees_in new.draft) (statements_in new) c.in_ok-node.node _ c.in_ok-node.ensures.ok
    ∙ ap (λ l. IfTree c.args.line (branches l) (statements (map (statement_at (statements_in new)) c.in_ok-otherwise.otherwise.items))) parts.are
    ∙ ap (λ l. IfTree c.args.line (branches (map branch_of c.args.branches.now)) (statements l)) c.in_ok-otherwise.ensures.are.are)

pub statement-returns-in-If-clause-is : goal.statement-returns-in-If-clause-is
statement-returns-in-If-clause-is t c =
    statement_as c.conditional.result c.conditional.new.self
    (IfTree c.in-If.line (branches (map branch_of c.deref-in-If.result.now)) (statements (map statement_of c.deref-in-If-2.result.now)))
    (statement_of c.args.statement.now) c.conditional.ensures.is
    (if_made c.args.statement.now c.in-If.line c.in-If.branches c.in-If.otherwise
    (map branch_of c.deref-in-If.result.now) (map statement_of c.deref-in-If-2.result.now) c.deref-in-If.result.now c.deref-in-If-2.result.now
    c.in-If.is c.deref-in-If.ensures.value c.deref-in-If-2.ensures.value refl refl)

pub body-loop-statement-preserved : goal.body-loop-statement-preserved
body-loop-statement-preserved t c =
    let old = c.loop-statement.self in
    let new = c.statement.new.self in
    record {
      extends = extends_trans c.args.self.now old new c.loop-statement.invariant.extends c.statement.ensures.extends;
      are = are_step c.args.body.now c.loop-statement.statement-index c.statement-item.result old new c.loop-statement.numbers.items
          c.push.new.self.items c.in_ok-number.number
          c.loop-statement-test.true c.statement-item.is c.in_ok-push.ensures.items c.statement.ensures.extends
          c.loop-statement.invariant.are c.in_ok-number.ensures.is;
    }

pub branches-loop-branch-preserved : goal.branches-loop-branch-preserved
branches-loop-branch-preserved t c =
    let old = c.loop-branch.self in
    let mid = c.expression.new.self in
    let new = c.body.new.self in
    let a = c.branch-item.result in
    let step = extends_trans old mid new c.expression.ensures.extends c.body.ensures.extends in
    let condition = stands_more (trees_in mid.draft) (trees_in new.draft) c.in_ok-condition.condition (expression_of a.condition)
    c.body.ensures.extends.draft.trees c.in_ok-condition.ensures.stands in
    let body = c.in_ok-body.ensures.are in
    record {
      extends = extends_trans c.args.self.now old new c.loop-branch.invariant.extends step;
      are = branches_step c.args.branches.now c.loop-branch.branch-index a old new c.loop-branch.nodes.items c.push.new.self.items
          record { condition = c.in_ok-condition.condition; line = a.line; body = c.in_ok-body.body } c.loop-branch-test.true
          c.branch-item.is c.in_ok-push.ensures.items step c.loop-branch.invariant.are
          (and_both (nat_lt c.in_ok-condition.condition (length (trees_in new.draft)))
          (list_all (λ i. nat_lt i (length (statements_in new))) c.in_ok-body.body.items) condition.within body.within)
          (ap (λ (x : ExpressionTree). (x, a.line, statements (map (statement_at (statements_in new)) c.in_ok-body.body.items)))
          condition.is
          ∙ ap (λ l. (expression_of a.condition, a.line, statements l)) (body.are ∙ ap (map statement_of) c.deref.ensures.value)
          ∙ sym (branch_is a));
    }

pub statement-returns-in-Assign-clause-extends : goal.statement-returns-in-Assign-clause-extends
statement-returns-in-Assign-clause-extends t c = c.assign.ensures.extends

pub statement-returns-in-Assign-clause-is : goal.statement-returns-in-Assign-clause-is
statement-returns-in-Assign-clause-is t c = statement_as c.assign.result c.assign.new.self _ (statement_of c.args.statement.now) c.assign.ensures.is
    (ap (λ (e : Expression). AssignTree c.in-Assign.name.now c.in-Assign.line (expression_of e)) c.deref.ensures
    ∙ assign_made c.args.statement.now c.in-Assign.line c.in-Assign.name c.in-Assign.value c.in-Assign.is)

pub statement-returns-in-Append-clause-extends : goal.statement-returns-in-Append-clause-extends
statement-returns-in-Append-clause-extends t c = c.assign-in-Append.ensures.extends

pub statement-returns-in-Append-clause-is : goal.statement-returns-in-Append-clause-is
statement-returns-in-Append-clause-is t c = statement_as c.assign-in-Append.result c.assign-in-Append.new.self _ (statement_of c.args.statement.now) c.assign-in-Append.ensures.is
    (ap (λ (e : Expression). AppendTree c.in-Append.name.now c.in-Append.line (expression_of e)) c.deref-in-Append.ensures
    ∙ append_made c.args.statement.now c.in-Append.line c.in-Append.name c.in-Append.value c.in-Append.is)

pub statement-returns-in-Expression-clause-extends : goal.statement-returns-in-Expression-clause-extends
statement-returns-in-Expression-clause-extends t c = c.value.ensures.extends

pub statement-returns-in-Expression-clause-is : goal.statement-returns-in-Expression-clause-is
statement-returns-in-Expression-clause-is t c = statement_as c.value.result c.value.new.self _ (statement_of c.args.statement.now) c.value.ensures.is
    (value_made c.args.statement.now c.in-Expression.line c.in-Expression.value c.in-Expression.is)

pub statement-returns-in-Break-clause-extends : goal.statement-returns-in-Break-clause-extends
statement-returns-in-Break-clause-extends t c = c.push.ensures.extends

pub statement-returns-in-Break-clause-is : goal.statement-returns-in-Break-clause-is
statement-returns-in-Break-clause-is t c = statement_as c.push.result c.push.new.self _ (statement_of c.args.statement.now) c.push.ensures.is
    (break_made c.args.statement.now c.in-Break.line c.in-Break.is)

pub statement-returns-in-Continue-clause-extends : goal.statement-returns-in-Continue-clause-extends
statement-returns-in-Continue-clause-extends t c = c.push-in-Continue.ensures.extends

pub statement-returns-in-Continue-clause-is : goal.statement-returns-in-Continue-clause-is
statement-returns-in-Continue-clause-is t c = statement_as c.push-in-Continue.result c.push-in-Continue.new.self _ (statement_of c.args.statement.now) c.push-in-Continue.ensures.is
    (continue_made c.args.statement.now c.in-Continue.line c.in-Continue.is)

pub statement-returns-in-If-clause-extends : goal.statement-returns-in-If-clause-extends
statement-returns-in-If-clause-extends t c = c.conditional.ensures.extends

pub statement-returns-in-Foreach-clause-extends : goal.statement-returns-in-Foreach-clause-extends
statement-returns-in-Foreach-clause-extends t c = c.repeated.ensures.extends

pub statement-returns-in-Foreach-clause-is : goal.statement-returns-in-Foreach-clause-is
statement-returns-in-Foreach-clause-is t c = statement_as c.repeated.result c.repeated.new.self _ (statement_of c.args.statement.now) c.repeated.ensures.is
    (ap (λ (b : Branch). ForeachTree c.in-Foreach.line c.in-Foreach.first.now (option_map (λ n. n.now) c.in-Foreach.second)
    (branch_of b).0 (branch_of b).1 (branch_of b).2) c.deref-in-Foreach.ensures
    ∙ each_made c.args.statement.now c.in-Foreach.line c.in-Foreach.first c.in-Foreach.second c.in-Foreach.round c.in-Foreach.is)

pub repeated-returns-in_err-loop_names-clause-extends : goal.repeated-returns-in_err-loop_names-clause-extends
repeated-returns-in_err-loop_names-clause-extends t c = c.loop_names.ensures.extends

pub repeated-returns-in_err-body-clause-extends : goal.repeated-returns-in_err-body-clause-extends
repeated-returns-in_err-body-clause-extends t c =
    extends_trans c.args.self.now c.loop_names.new.self c.body.new.self c.loop_names.ensures.extends c.body.ensures.extends

pub repeated-foreach-requires : goal.repeated-foreach-requires
repeated-foreach-requires t c = c.in_ok-body.ensures.are.within

pub repeated-returns-clause-extends : goal.repeated-returns-clause-extends
repeated-returns-clause-extends t c =
    extends_trans c.args.self.now c.body.new.self c.foreach.new.self
    (extends_trans c.args.self.now c.loop_names.new.self c.body.new.self c.loop_names.ensures.extends c.body.ensures.extends)
    c.foreach.ensures.extends

pub repeated-returns-clause-is : goal.repeated-returns-clause-is
repeated-returns-clause-is t c =
    let r = c.args.round.now in
    let second = option_map (λ n. n.now) c.args.second in
    statement_as c.foreach.result c.foreach.new.self _ _ c.foreach.ensures.is
    (ap (λ l. ForeachTree c.args.line c.args.first.now second (expression_of r.condition) r.line (statements l))
    (c.in_ok-body.ensures.are.are ∙ ap (map statement_of) c.deref.ensures.value)
    ∙ ap (λ (b : BranchTree). ForeachTree c.args.line c.args.first.now second b.0 b.1 b.2) (sym (branch_is r)))

pub body-returns-in_err-number-clause-extends : goal.body-returns-in_err-number-clause-extends
body-returns-in_err-number-clause-extends t c =
    extends_trans c.args.self.now c.loop-statement.self c.statement.new.self c.loop-statement.invariant.extends c.statement.ensures.extends

pub body-returns-in_err-push-clause-extends : goal.body-returns-in_err-push-clause-extends
body-returns-in_err-push-clause-extends t c =
    extends_trans c.args.self.now c.loop-statement.self c.statement.new.self c.loop-statement.invariant.extends c.statement.ensures.extends

pub branches-returns-in_err-condition-clause-extends : goal.branches-returns-in_err-condition-clause-extends
branches-returns-in_err-condition-clause-extends t c =
    extends_trans c.args.self.now c.loop-branch.self c.expression.new.self c.loop-branch.invariant.extends c.expression.ensures.extends

pub branches-returns-in_err-body-clause-extends : goal.branches-returns-in_err-body-clause-extends
branches-returns-in_err-body-clause-extends t c =
    extends_trans c.args.self.now c.expression.new.self c.body.new.self
    (extends_trans c.args.self.now c.loop-branch.self c.expression.new.self c.loop-branch.invariant.extends c.expression.ensures.extends) c.body.ensures.extends

pub branches-returns-in_err-push-clause-extends : goal.branches-returns-in_err-push-clause-extends
branches-returns-in_err-push-clause-extends t c =
    extends_trans c.args.self.now c.expression.new.self c.body.new.self
    (extends_trans c.args.self.now c.loop-branch.self c.expression.new.self c.loop-branch.invariant.extends c.expression.ensures.extends) c.body.ensures.extends
