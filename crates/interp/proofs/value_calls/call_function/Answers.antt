use Rattle.std.proofs.Common.{Some, ap, rules, sym, ◌∙◌}
use Rattle.arguments.specs.Arguments.{arguments_data}
use Rattle.interp.specs.Expressions.{called_by}
use Rattle.expressions.proofs.Evaluating.{given_as, given_give, given_none}
use Rattle.interp.proofs.value_calls.call_function.Goals as goal

pub returns-in_err-of_object-clause-gives : goal.returns-in_err-of_object-clause-gives
returns-in_err-of_object-clause-gives g c = λ files h. given_none h c.from_residual.ensures.1

pub returns-then-is_turned_off-clause-gives : goal.returns-then-is_turned_off-clause-gives
returns-then-is_turned_off-clause-gives g c = λ files h. given_as (ap (λ b. called_by b c.args.line c.args.function (arguments_data c.args.arguments.now)) (sym c.if-is_turned_off.true ∙ c.is_turned_off.ensures)) (given_give h (ap Some c.in_ok-of_object.ensures))

pub returns-clause-gives : goal.returns-clause-gives
returns-clause-gives g c = λ files h. given_as (ap (λ b. called_by b c.args.line c.args.function (arguments_data c.args.arguments.now)) (sym c.if-is_turned_off.false ∙ c.is_turned_off.ensures)) (search rules)
