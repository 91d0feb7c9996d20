use Rattle.std.proofs.Common.{Some, ap, refl, sym, ◌∙◌}
use Rattle.arguments.specs.Arguments.{arguments_data}
use Rattle.support.specs.declared.faults.refusal.Refusal.TheVariants as refusals
use Rattle.values.specs.Data.{object}
use Rattle.values.specs.declared.object.Object.TheVariants as objects
use Rattle.values.specs.declared.object.Program.TheVariants as programs
use Rattle.world.specs.Deed.{give, refuse}
use Rattle.world.proofs.Answering.{carries_as, carries_refuse}
use Rattle.resource_calls.specs.Programs.{missing_program, no_program}
use Rattle.resource_calls.specs.Required.{object_or}
use Rattle.resource_calls.proofs.Either.{either_way}
use Rattle.resource_calls.proofs.programs.no_program.Goals as goal

pub returns-in-Required : goal.returns-in-Required
unfolding no_program
returns-in-Required g c =
    carries_as (ap (λ r. no_program r (arguments_data c.args.arguments.now)) (sym c.in-Required.is ∙ c.read_required.ensures))
    (carries_as (ap (λ t. refuse refusals.NotFound t) c.text_at.ensures) (carries_refuse c.refuse.ensures))

pub returns-in-Optional : goal.returns-in-Optional
unfolding no_program missing_program
returns-in-Optional g c =
    let a = arguments_data c.args.arguments.now in
    carries_as (sym (ap (λ r. no_program r a) (sym c.read_required.ensures)
    ∙ either_way (λ r. no_program r a) (missing_program a) refl refl c.in-Optional.is))
    (carries_as (ap (λ o. give (Some (object o))) (c.object_or.ensures
    ∙ ap (object_or (objects.Program programs.NotFound)) c.gives_disabler.ensures)) c.return_object.ensures)
