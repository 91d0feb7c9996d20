use Rattle.std.proofs.Common.{◌∙◌, List, [], map, sym, ap}
use Rattle.syntax.specs.declared.tree.Statement.{Statement}
use Rattle.syntax.specs.Tree.{statement_of}
use Rattle.options.specs.option_file.Declares.{declares_from}
use Rattle.options.specs.option_file.MisfitView.{refused_in}
use Rattle.options.specs.option_file.View.{after_in, options_in}
use Rattle.options.proofs.Statements.{declares_first, declares_fault, declares_more, declares_end}
use Rattle.options.proofs.option_file.file.file_declares.Goals as goal

pub loop-statement-init : goal.loop-statement-init
loop-statement-init c = declares_first c.deref-statement-items.result.now (options_in c.empty-declared.result) c.empty-declared.ensures

pub returns-in-Err : goal.returns-in-Err
returns-in-Err c = declares_fault c.deref-statement-items.result.now c.loop-statement.statement-index c.statement-item.result
    (options_in c.loop-statement.declared) (refused_in c.in-Err.refused) c.line_of-line.result
    c.loop-statement.invariant c.loop-statement-test.true c.statement-item.is (ap after_in (sym c.in-Err.is)
    ∙ c.in_ok-more.ensures) c.line_of-line.ensures
    ∙ ap (λ (xs : List Statement). declares_from (map statement_of xs) []) c.deref-statement-items.ensures.value

pub loop-statement-preserved : goal.loop-statement-preserved
loop-statement-preserved c = declares_more c.deref-statement-items.result.now c.loop-statement.statement-index c.statement-item.result
    (options_in c.loop-statement.declared) (options_in c.in-Ok.more)
    c.loop-statement.invariant c.loop-statement-test.true c.statement-item.is (ap after_in (sym c.in-Ok.is) ∙ c.in_ok-more.ensures)

pub returns : goal.returns
returns c = declares_end c.deref-statement-items.result.now c.loop-statement.statement-index (options_in c.loop-statement.declared)
    c.loop-statement.invariant c.loop-statement-test.false
    ∙ ap (λ (xs : List Statement). declares_from (map statement_of xs) []) c.deref-statement-items.ensures.value
