use Rattle.std.proofs.Common.{ap, sym, subst, length, ◌∙◌}
use Rattle.std.specs.Prelude.{IsTrue}
use Rattle.syntax.specs.ExpressionTree.{expression_of}
use Rattle.syntax.specs.ReadingStatements.{set_tree}
use Rattle.code.specs.declared.node.StatementNode.{StatementNode}
use Rattle.code.specs.Draft.{trees_in}
use Rattle.code.specs.Statements.{statement_tree, statement_within}
use Rattle.code.specs.FileDraft.{statements_in}
use Rattle.code.proofs.Parts.{stands_more}
use Rattle.code.proofs.Placed.{extends_trans, set_is, set_within, statement_as}
use Rattle.code.proofs.file_draft.FileDraft.assign.Goals as goal

pub returns-in_err-value-clause-extends : goal.returns-in_err-value-clause-extends
returns-in_err-value-clause-extends c = c.expression.ensures.extends

pub returns-in_err-name-clause-extends : goal.returns-in_err-name-clause-extends
returns-in_err-name-clause-extends c =
    extends_trans c.args.self.now c.expression.new.self c.name.new.self c.expression.ensures.extends c.name.ensures.extends

pub returns-in_err-node-clause-extends : goal.returns-in_err-node-clause-extends
returns-in_err-node-clause-extends c =
    extends_trans c.args.self.now c.expression.new.self c.name.new.self c.expression.ensures.extends c.name.ensures.extends

pub push-requires : goal.push-requires
push-requires c =
    let new = c.name.new.self in
    let value = stands_more (trees_in c.expression.new.self.draft) (trees_in new.draft) c.in_ok-value.value (expression_of c.args.value.now)
    c.name.ensures.extends.draft.trees c.in_ok-value.ensures.stands in
    subst (λ (x : StatementNode). IsTrue (statement_within (length new.draft.names) (length (trees_in new.draft)) (length (statements_in new)) x))
    (sym c.in_ok-node.ensures)
    (set_within c.args.adds (length new.draft.names) (length (trees_in new.draft)) (length (statements_in new)) c.in_ok-name.name c.args.line
    c.in_ok-value.value c.in_ok-name.ensures.within value.within)

pub returns-clause-extends : goal.returns-clause-extends
returns-clause-extends c =
    extends_trans c.args.self.now c.name.new.self c.push.new.self
    (extends_trans c.args.self.now c.expression.new.self c.name.new.self c.expression.ensures.extends c.name.ensures.extends) c.push.ensures.extends

pub returns-clause-is : goal.returns-clause-is
returns-clause-is c =
    let new = c.name.new.self in
    let value = stands_more (trees_in c.expression.new.self.draft) (trees_in new.draft) c.in_ok-value.value (expression_of c.args.value.now)
    c.name.ensures.extends.draft.trees c.in_ok-value.ensures.stands in
    statement_as c.push.result c.push.new.self
    (statement_tree new.draft.names (trees_in new.draft) (statements_in new) c.in_ok-node.node)
    (set_tree c.args.adds c.args.name.now c.args.line (expression_of c.args.value.now)) c.push.ensures.is
    (ap (statement_tree new.draft.names (trees_in new.draft) (statements_in new)) c.in_ok-node.ensures
    ∙ set_is c.args.adds new.draft.names (trees_in new.draft) (statements_in new) c.in_ok-name.name c.args.line c.in_ok-value.value
    c.args.name.now (expression_of c.args.value.now) c.in_ok-name.ensures.is value.is)
