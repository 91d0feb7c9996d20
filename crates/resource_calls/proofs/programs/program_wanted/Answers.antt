use Rattle.std.proofs.Common.{map, ap, refl, sym, ◌∙◌}
use Rattle.arguments.specs.Arguments.{arguments_data}
use Rattle.values.specs.Flat.{flat_all}
use Rattle.world.proofs.Answering.{carries_as, carries_give, carries_none}
use Rattle.resource_calls.specs.Programs.{first_program, program_wanted}
use Rattle.resource_calls.proofs.Either.{either_way}
use Rattle.resource_calls.proofs.programs.program_wanted.Goals as goal

pub returns-in-Disabled : goal.returns-in-Disabled
unfolding program_wanted
returns-in-Disabled g c =
    carries_as (ap (λ r. program_wanted r (arguments_data c.args.arguments.now)) (sym c.in-Disabled.is ∙ c.read_required.ensures))
    (carries_give refl)

pub returns-in_err-names-in-Required : goal.returns-in_err-names-in-Required
returns-in_err-names-in-Required g c = carries_none c.from_residual.ensures.1

pub returns-in_ok-names-in-Required : goal.returns-in_ok-names-in-Required
unfolding program_wanted
returns-in_ok-names-in-Required g c =
    let a = arguments_data c.args.arguments.now in
    carries_as (sym (ap (λ r. program_wanted r a) (sym c.read_required.ensures)
    ∙ either_way (λ r. program_wanted r a) (first_program (flat_all a.positional)) refl refl c.in-Required.is))
    (carries_as (ap (λ ns. first_program (map (λ n. n.now) ns)) c.deref.ensures.value ∙ ap first_program c.in_ok-names-in-Required.ensures)
    c.first_program.ensures)
