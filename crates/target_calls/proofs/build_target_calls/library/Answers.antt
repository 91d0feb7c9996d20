use Rattle.std.proofs.Common.{ap, ◌∙◌}
use Rattle.arguments.specs.Arguments.{arguments_data}
use Rattle.world.proofs.Answering.{carries_as, carries_read}
use Rattle.target_calls.specs.Targets.{declare, library, library_kind}
use Rattle.target_calls.proofs.build_target_calls.library.Goals as goal

pub returns : goal.returns
unfolding library
returns g c =
    carries_read (carries_as (ap (λ k. declare k (arguments_data c.args.arguments.now)) (c.library_kind-kind.ensures ∙ ap library_kind c.option.ensures))
    c.declare.ensures)
