use Rattle.std.proofs.Common.{Bor, option_map, ap, sym}
use Rattle.arguments.specs.Arguments.{arguments_data}
use Rattle.values.specs.View.{data_of}
use Rattle.values.specs.declared.value.Value.{Value}
use Rattle.world.proofs.Answering.{carries_as}
use Rattle.interp.specs.ByName.{call_by_name}
use Rattle.interp.proofs.by_name.call.Goals as goal

pub returns-in-Some-clause-does : goal.returns-in-Some-clause-does
returns-in-Some-clause-does g c =
    carries_as (ap (λ o. call_by_name o c.args.name.now (arguments_data c.args.arguments.now))
    (sym (ap (option_map (λ (b : Bor Value). data_of b.now)) c.in-Some.is))) c.call_method.ensures.does

pub returns-in-None-clause-does : goal.returns-in-None-clause-does
returns-in-None-clause-does g c =
    carries_as (ap (λ o. call_by_name o c.args.name.now (arguments_data c.args.arguments.now))
    (sym (ap (option_map (λ (b : Bor Value). data_of b.now)) c.in-None.is))) c.call_function.ensures.does
