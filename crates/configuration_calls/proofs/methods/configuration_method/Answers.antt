use Rattle.std.proofs.Common.{ap, sym, ◌∙◌}
use Rattle.arguments.specs.Arguments.{arguments_data}
use Rattle.world.specs.Fit.{fit}
use Rattle.world.proofs.Answering.{carries_as, carries_refuse, carries_stop, carries_then}
use Rattle.configuration_calls.specs.Methods.{configuration_method, does_if, fitting_does}
use Rattle.configuration_calls.proofs.methods.configuration_method.Goals as goal

pub returns-in_err-fit-in-Some : goal.returns-in_err-fit-in-Some
unfolding configuration_method fitting_does
returns-in_err-fit-in-Some g c =
    let a = arguments_data c.args.arguments.now in
    carries_as (ap (λ m. does_if m c.args.number a) (sym c.in-Some.is ∙ c.of_configuration.ensures))
    (carries_stop (carries_as (ap (λ r. fit r a) c.row_of.ensures) c.in_err-fit-in-Some.ensures) c.from_residual.ensures.1)

pub returns-in_ok-fit-in-Some : goal.returns-in_ok-fit-in-Some
unfolding configuration_method fitting_does
returns-in_ok-fit-in-Some g c =
    let a = arguments_data c.args.arguments.now in
    carries_as (ap (λ m. does_if m c.args.number a) (sym c.in-Some.is ∙ c.of_configuration.ensures))
    (carries_then (carries_as (ap (λ r. fit r a) c.row_of.ensures) c.in_ok-fit-in-Some.ensures) c.act.ensures)

pub returns-in-None : goal.returns-in-None
unfolding configuration_method
returns-in-None g c =
    carries_as (ap (λ m. does_if m c.args.number (arguments_data c.args.arguments.now)) (sym c.in-None.is ∙ c.of_configuration.ensures)) (carries_refuse c.refuse.ensures)
