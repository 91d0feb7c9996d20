use Rattle.std.proofs.Common.{◌≡◌, IfOk, subst, sym}
use Rattle.syntax.specs.ExpressionTree.{argument_trees, expression_of}
use Rattle.syntax.proofs.Views.{call_seen}
use Rattle.options.specs.option_file.Declares.{function_declares, expression_declares}
use Rattle.options.specs.option_file.View.{call_in}
use Rattle.options.proofs.option_file.file.expression_declares.Goals as goal

pub returns-in-Call : goal.returns-in-Call
returns-in-Call c =
    subst (λ e. IfOk c.function_declares.result (λ option. call_in option ≡ expression_declares c.args.line (expression_of e))) (sym c.in-Call.is)
    (subst (λ t. IfOk c.function_declares.result (λ option. call_in option ≡ expression_declares c.args.line t))
    (call_seen c.in-Call.name c.in-Call.arguments c.in-Call.line)
    (subst (λ items. IfOk c.function_declares.result (λ option. call_in option ≡ function_declares c.args.line c.in-Call.name.now (argument_trees items)))
    c.deref.ensures.value c.function_declares.ensures))
