use Rattle.std.proofs.Common.{ap, refl, subst, sym, ◌∙◌}
use Rattle.arguments.specs.Arguments.{arguments_data}
use Rattle.arguments.specs.Stops.{Gives}
use Rattle.support.specs.declared.faults.refusal.Refusal.TheVariants as refusals
use Rattle.resources.specs.Found.{missing_dependency}
use Rattle.values.specs.declared.object.Dependency.{Dependency}
use Rattle.world.specs.Deed.{refuse}
use Rattle.world.proofs.Answering.{carries_as, carries_refuse, carries_stop, carries_then}
use Rattle.world.proofs.Settling.{carries_given}
use Rattle.resource_calls.specs.Dependency.{missing_result, note_dependency, none_fits}
use Rattle.resource_calls.proofs.Either.{either_way}
use Rattle.resource_calls.proofs.dependencies.none_fits.Goals as goal

pub returns-in-Required : goal.returns-in-Required
unfolding none_fits
returns-in-Required g c =
    carries_as (ap (λ r. none_fits r (arguments_data c.args.arguments.now)) (sym c.in-Required.is ∙ c.read_required.ensures))
    (carries_as (ap (λ t. refuse refusals.NotFound t) c.text_at.ensures) (carries_refuse c.refuse.ensures))

pub returns-in_err-missing-in-Optional : goal.returns-in_err-missing-in-Optional
unfolding none_fits missing_result
returns-in_err-missing-in-Optional g c =
    let a = arguments_data c.args.arguments.now in
    let same : Dependency → Dependency = λ d. d in
    let missing = subst (λ name. Gives same (missing_dependency name) c.missing_dependency.result) c.text_at-in-Optional.ensures c.missing_dependency.ensures in
    carries_as (sym (ap (λ r. none_fits r a) (sym c.read_required.ensures)
    ∙ either_way (λ r. none_fits r a) (missing_result a) refl refl c.in-Optional.is))
    (carries_stop (carries_given {view = same} _ c.missing_dependency.result missing c.in_err-missing-in-Optional.ensures) c.from_residual.ensures.1)

pub returns-in_ok-missing-in-Optional : goal.returns-in_ok-missing-in-Optional
unfolding none_fits missing_result
returns-in_ok-missing-in-Optional g c =
    let a = arguments_data c.args.arguments.now in
    let same : Dependency → Dependency = λ d. d in
    let missing = subst (λ name. Gives same (missing_dependency name) c.missing_dependency.result) c.text_at-in-Optional.ensures c.missing_dependency.ensures in
    carries_as (sym (ap (λ r. none_fits r a) (sym c.read_required.ensures)
    ∙ either_way (λ r. none_fits r a) (missing_result a) refl refl c.in-Optional.is))
    (carries_then {x = c.in_ok-missing-in-Optional.missing}
    (carries_given {view = same} _ c.missing_dependency.result missing c.in_ok-missing-in-Optional.ensures)
    (carries_as (ap (note_dependency c.in_ok-missing-in-Optional.missing) c.gives_disabler.ensures) c.note_dependency.ensures))
