use Rattle.std.proofs.Common.{Bor, option_map, false, Some, ap, sym, ◌∙◌}
use Rattle.arguments.specs.Arguments.{arguments_data}
use Rattle.values.specs.Data.{object_in}
use Rattle.values.specs.View.{data_of}
use Rattle.values.specs.declared.object.Object.{Object}
use Rattle.interp.specs.Expressions.{method_by, method_called_by}
use Rattle.expressions.proofs.Evaluating.{given_as, given_give, given_none}
use Rattle.interp.proofs.evaluator.Evaluator.method_called.Goals as goal

pub returns-in_err-disabler_method-clause-gives : goal.returns-in_err-disabler_method-clause-gives
returns-in_err-disabler_method-clause-gives g c = λ files h.
    given_none h c.from_residual.ensures.1

pub returns-then-is_disabler-clause-gives : goal.returns-then-is_disabler-clause-gives
returns-then-is_disabler-clause-gives g c = λ files h.
    given_as (ap (λ b. method_called_by b c.args.line (data_of c.args.whole.now) c.args.name.now (arguments_data c.args.arguments.now)) (sym c.if-is_disabler.true ∙ c.is_disabler.ensures)) (given_give h (ap Some c.in_ok-disabler_method.ensures))

pub returns-in_err-of_object-clause-gives : goal.returns-in_err-of_object-clause-gives
returns-in_err-of_object-clause-gives g c = λ files h.
    given_none h c.from_residual-in_err-of_object.ensures.1

pub returns-then-gives_disabler-clause-gives : goal.returns-then-gives_disabler-clause-gives
returns-then-gives_disabler-clause-gives g c = λ files h.
    given_as (ap (λ b. method_called_by b c.args.line (data_of c.args.whole.now) c.args.name.now (arguments_data c.args.arguments.now)) (sym c.if-is_disabler.false ∙ c.is_disabler.ensures))
    (given_as (ap (λ b. method_by b (object_in (data_of c.args.whole.now)) c.args.line (data_of c.args.whole.now) c.args.name.now (arguments_data c.args.arguments.now)) (sym c.if-gives_disabler.true ∙ c.gives_disabler.ensures)) (given_give h (ap Some c.in_ok-of_object.ensures)))

pub returns-in-Some-clause-gives : goal.returns-in-Some-clause-gives
returns-in-Some-clause-gives g c = λ files h.
    given_as (ap (λ b. method_called_by b c.args.line (data_of c.args.whole.now) c.args.name.now (arguments_data c.args.arguments.now)) (sym c.if-is_disabler.false ∙ c.is_disabler.ensures))
    (given_as (ap (λ b. method_by b (object_in (data_of c.args.whole.now)) c.args.line (data_of c.args.whole.now) c.args.name.now (arguments_data c.args.arguments.now)) (sym c.if-gives_disabler.false ∙ c.gives_disabler.ensures))
    (given_as (ap (λ o. method_by false o c.args.line (data_of c.args.whole.now) c.args.name.now (arguments_data c.args.arguments.now)) (sym (ap (option_map (λ (b : Bor Object). b.now)) c.in-Some.is) ∙ c.as_object.ensures))
    (c.object_method_of.ensures.gives files h)))

pub returns-in-None-clause-gives : goal.returns-in-None-clause-gives
returns-in-None-clause-gives g c = λ files h.
    given_as (ap (λ b. method_called_by b c.args.line (data_of c.args.whole.now) c.args.name.now (arguments_data c.args.arguments.now)) (sym c.if-is_disabler.false ∙ c.is_disabler.ensures))
    (given_as (ap (λ b. method_by b (object_in (data_of c.args.whole.now)) c.args.line (data_of c.args.whole.now) c.args.name.now (arguments_data c.args.arguments.now)) (sym c.if-gives_disabler.false ∙ c.gives_disabler.ensures))
    (given_as (ap (λ o. method_by false o c.args.line (data_of c.args.whole.now) c.args.name.now (arguments_data c.args.arguments.now)) (sym (ap (option_map (λ (b : Bor Object). b.now)) c.in-None.is) ∙ c.as_object.ensures))
    (c.value_method.ensures.gives files h)))
