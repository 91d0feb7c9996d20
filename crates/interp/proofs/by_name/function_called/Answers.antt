use Rattle.std.proofs.Common.{Some, ap, sym, ◌∙◌}
use Rattle.arguments.specs.Arguments.{arguments_data}
use Rattle.world.proofs.Answering.{carries_as, carries_give, carries_none}
use Rattle.interp.specs.ByName.{function_called_by}
use Rattle.interp.proofs.by_name.function_called.Goals as goal

pub returns-in_err-of_object : goal.returns-in_err-of_object
returns-in_err-of_object g c = carries_none c.from_residual.ensures.1

pub returns-then-is_turned_off : goal.returns-then-is_turned_off
returns-then-is_turned_off g c =
    carries_as (ap (λ b. function_called_by b c.args.function (arguments_data c.args.arguments.now))
    (sym c.if-is_turned_off.true ∙ c.is_turned_off.ensures)) (carries_give (ap Some c.in_ok-of_object.ensures))

pub returns : goal.returns
returns g c =
    carries_as (ap (λ b. function_called_by b c.args.function (arguments_data c.args.arguments.now))
    (sym c.if-is_turned_off.false ∙ c.is_turned_off.ensures)) c.call.ensures
