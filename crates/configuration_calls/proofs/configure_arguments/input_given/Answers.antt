use Rattle.std.proofs.Common.{option_map, string_bytes, subst}
use Rattle.arguments.specs.Arguments.{arguments_data}
use Rattle.arguments.specs.Stops.{Says}
use Rattle.world.specs.Here.{HereData}
use Rattle.world.proofs.Answering.{carries_read}
use Rattle.world.proofs.Settling.{carries_says}
use Rattle.configuration_calls.specs.ConfigureFile.{input_given}
use Rattle.configuration_calls.specs.Inputs.{input_named}
use Rattle.configuration_calls.proofs.configure_arguments.input_given.Goals as goal

pub returns : goal.returns
unfolding input_given
returns g c =
    let said = subst (λ (h : HereData). Says (option_map string_bytes) (input_named h.source_root h.folder (arguments_data c.args.arguments.now))
    c.input_named.result) c.here.ensures c.input_named.ensures in
    carries_read (carries_says {view = option_map string_bytes} _ c.input_named.result said c.settle.ensures)
