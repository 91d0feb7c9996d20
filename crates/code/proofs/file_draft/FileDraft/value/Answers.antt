use Rattle.std.proofs.Common.{ap}
use Rattle.syntax.specs.ExpressionTree.{expression_of}
use Rattle.syntax.specs.Tree.{ValueTree}
use Rattle.code.specs.Draft.{trees_in}
use Rattle.code.proofs.Made.{stands_so}
use Rattle.code.proofs.Placed.{extends_trans, statement_as}
use Rattle.code.proofs.file_draft.FileDraft.value.Goals as goal

pub returns-in_err-number-clause-extends : goal.returns-in_err-number-clause-extends
returns-in_err-number-clause-extends c = c.expression.ensures.extends

pub returns-in_err-value-clause-extends : goal.returns-in_err-value-clause-extends
returns-in_err-value-clause-extends c = c.expression.ensures.extends

pub push-requires : goal.push-requires
push-requires c = (stands_so (trees_in c.expression.new.self.draft) c.in_ok-value.value c.in_ok-number.number (expression_of c.args.value.now)
    c.in_ok-value.ensures c.in_ok-number.ensures.stands).within

pub returns-clause-extends : goal.returns-clause-extends
returns-clause-extends c =
    extends_trans c.args.self.now c.expression.new.self c.push.new.self c.expression.ensures.extends c.push.ensures.extends

pub returns-clause-is : goal.returns-clause-is
returns-clause-is c =
    let value = stands_so (trees_in c.expression.new.self.draft) c.in_ok-value.value c.in_ok-number.number (expression_of c.args.value.now)
    c.in_ok-value.ensures c.in_ok-number.ensures.stands in
    statement_as c.push.result c.push.new.self _ (ValueTree (expression_of c.args.value.now) c.args.line) c.push.ensures.is
    (ap (λ e. ValueTree e c.args.line) value.is)
