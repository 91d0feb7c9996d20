use Rattle.std.proofs.Common.{Some, option_map, string_bytes, sym, ap, ◌∙◌}
use Rattle.arguments.specs.Arguments.{arguments_data}
use Rattle.world.proofs.Answering.{carries_as}
use Rattle.configuration_calls.specs.ConfigureFile.{configured_output}
use Rattle.configuration_calls.specs.GivenView.{given_view}
use Rattle.configuration_calls.proofs.Filling.{fixed_of}
use Rattle.configuration_calls.proofs.file_call.configure.Goals as goal

pub returns-in-Some : goal.returns-in-Some
returns-in-Some g c =
    let a = arguments_data c.args.arguments.now in
    let values = given_view c.args.given.now in
    carries_as (ap (λ t. configured_output a (Some t) values) c.as_str.ensures.value ∙ ap (λ o. configured_output a (option_map string_bytes o) values) (sym c.in-Some.is)) c.make_from.ensures

pub returns-in-None : goal.returns-in-None
unfolding configured_output
returns-in-None g c =
    let a = arguments_data c.args.arguments.now in
    carries_as (ap (λ o. configured_output a (option_map string_bytes o) (given_view c.args.given.now)) (sym c.in-None.is)) (fixed_of c.make.ensures)
