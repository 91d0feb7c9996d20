use Rattle.std.proofs.Common.{map, ap, refl, sym, ◌∙◌}
use Rattle.arguments.specs.Arguments.{arguments_data}
use Rattle.values.specs.Flat.{flat_all}
use Rattle.world.proofs.Answering.{carries_as, carries_give, carries_none}
use Rattle.resource_calls.specs.Dependency.{first_said, fitting_dependency}
use Rattle.resource_calls.proofs.Either.{either_way}
use Rattle.resource_calls.proofs.dependencies.fitting_dependency.Goals as goal

pub returns-in-Disabled : goal.returns-in-Disabled
unfolding fitting_dependency
returns-in-Disabled g c =
    carries_as (ap (λ r. fitting_dependency r (arguments_data c.args.arguments.now)) (sym c.in-Disabled.is ∙ c.read_required.ensures))
    (carries_give refl)

pub returns-in_err-names-in-Required : goal.returns-in_err-names-in-Required
returns-in_err-names-in-Required g c = carries_none c.from_residual.ensures.1

pub returns-in_ok-names-in-Required : goal.returns-in_ok-names-in-Required
unfolding fitting_dependency
returns-in_ok-names-in-Required g c =
    let a = arguments_data c.args.arguments.now in
    carries_as (sym (ap (λ r. fitting_dependency r a) (sym c.read_required.ensures)
    ∙ either_way (λ r. fitting_dependency r a) (first_said a (flat_all a.positional)) refl refl c.in-Required.is))
    (carries_as (ap (λ ns. first_said a (map (λ n. n.now) ns)) c.deref.ensures.value ∙ ap (first_said a) c.in_ok-names-in-Required.ensures)
    c.first_said.ensures)
