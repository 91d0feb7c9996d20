use Rattle.std.proofs.Common.{ap, ◌∙◌}
use Rattle.arguments.specs.Arguments.{arguments_data}
use Rattle.machine_file.specs.Questions.{answer_to}
use Rattle.options.specs.option_file.View.{options_in}
use Rattle.option_values.specs.View.{strings_in}
use Rattle.world.specs.Store.{world_of}
use Rattle.world.proofs.Answering.{carries_give, carries_none, carries_read, carries_stop, carries_then}
use Rattle.project_calls.specs.Resolution.{options_topic, resolution, resolution_by}
use Rattle.project_calls.proofs.resolution.resolution.Goals as goal

pub returns-in_err-ask_options : goal.returns-in_err-ask_options
unfolding resolution
returns-in_err-ask_options g c = carries_stop c.in_err-ask_options.ensures.deed c.from_residual.ensures.1

pub returns-in_err-resolved : goal.returns-in_err-resolved
unfolding resolution
returns-in_err-resolved g c = carries_then c.in_ok-ask_options.ensures.deed (carries_none c.from_residual-in_err-resolved.ensures.1)

pub returns : goal.returns
unfolding resolution
returns g c =
    let a = arguments_data c.args.arguments.now in
    let ds = options_in c.args.declared.now in
    carries_then c.in_ok-ask_options.ensures.deed (carries_read (carries_give (c.in_ok-resolved.ensures
    ∙ ap (λ m. resolution_by a (strings_in c.args.printed.now) ds (answer_to m (options_topic ds))
    (world_of c.ask_options.new.caller.store.now).facts)
    c.in_ok-ask_options.ensures.machine)))
