use Rattle.std.proofs.Common.{[], Ok, false, true}
use Rattle.world.specs.SettingsView.{settings_view}
use Rattle.world.specs.Store.{world_of}
use Rattle.world.specs.Trace.{seen_from_parts}
use Rattle.interp.specs.Cost.{tree_cost}
use Rattle.interp.specs.Evaluation.{evaluated_files, evaluated_few}
use Rattle.interp.proofs.Costs.{steps_within_cost}
use Rattle.interp.proofs.Starting.{not_started, run_of, whole_done, whole_stopped}
use Rattle.interp.proofs.Ticking.{fails_none, fails_stop, ticked}
use Rattle.interp.proofs.evaluation.evaluate.Goals as goal

pub returns-in_err-store-clause-gives : goal.returns-in_err-store-clause-gives
unfolding evaluated_files
returns-in_err-store-clause-gives g c = λ files said h is.
    not_started false files (settings_view c.args.inputs.now.settings.now) said c.in_err-store.field-0.0 c.from_residual.result (g.O.Outputs.seen c.args.out.now) c.args.steps.now c.from_residual.ensures.1 (c.in_err-store.ensures.starts said is)

pub returns-in_err-store-clause-ticks : goal.returns-in_err-store-clause-ticks
unfolding evaluated_files evaluated_few
returns-in_err-store-clause-ticks g c = λ files said h is.
    ticked (run_of false files (settings_view c.args.inputs.now.settings.now) said) (run_of true files (settings_view c.args.inputs.now.settings.now) said) (tree_cost files) c.from_residual.result (seen_from_parts (g.O.Outputs.seen c.args.out.now) c.args.steps.now []) (seen_from_parts (g.O.Outputs.seen c.args.out.now) c.args.steps.now [])
    c.ends_keep_up.ensures (steps_within_cost files (settings_view c.args.inputs.now.settings.now) said)
    (not_started false files (settings_view c.args.inputs.now.settings.now) said c.in_err-store.field-0.0 c.from_residual.result (g.O.Outputs.seen c.args.out.now) c.args.steps.now c.from_residual.ensures.1 (c.in_err-store.ensures.starts said is))
    (not_started true files (settings_view c.args.inputs.now.settings.now) said c.in_err-store.field-0.0 c.from_residual.result (g.O.Outputs.seen c.args.out.now) c.args.steps.now c.from_residual.ensures.1 (c.in_err-store.ensures.starts said is))

pub returns-in_err-store-clause-device : goal.returns-in_err-store-clause-device
returns-in_err-store-clause-device g c =
    fails_none c.in_err-store.field-0.0 c.from_residual.result (g.T.Tree.seen c.args.tree.now) (g.O.Outputs.seen c.args.out.now) c.from_residual.ensures.1 c.in_err-store.ensures.quiet

pub returns-in_err-definitions-clause-gives : goal.returns-in_err-definitions-clause-gives
unfolding evaluated_files
returns-in_err-definitions-clause-gives g c = λ files said h is.
    whole_stopped false files (settings_view c.args.inputs.now.settings.now) said c.in_ok-store.store (world_of c.definitions.new.store) c.in_err-definitions.field-0.0 c.from_residual-in_err-definitions.result
    (seen_from_parts (g.O.Outputs.seen c.args.out.now) c.args.steps.now c.in_ok-store.store.names) (seen_from_parts (g.O.Outputs.seen c.definitions.new.out) c.definitions.new.steps c.definitions.new.store.names) (c.in_ok-store.ensures.starts said is) c.from_residual-in_err-definitions.ensures.1 (c.in_err-definitions.ensures.gives files h).gives

pub returns-in_err-definitions-clause-ticks : goal.returns-in_err-definitions-clause-ticks
unfolding evaluated_files evaluated_few
returns-in_err-definitions-clause-ticks g c = λ files said h is.
    ticked (run_of false files (settings_view c.args.inputs.now.settings.now) said) (run_of true files (settings_view c.args.inputs.now.settings.now) said) (tree_cost files) c.from_residual-in_err-definitions.result (seen_from_parts (g.O.Outputs.seen c.args.out.now) c.args.steps.now []) (seen_from_parts (g.O.Outputs.seen c.definitions.new.out) c.definitions.new.steps [])
    c.ends_keep_up.ensures (steps_within_cost files (settings_view c.args.inputs.now.settings.now) said)
    (whole_stopped false files (settings_view c.args.inputs.now.settings.now) said c.in_ok-store.store (world_of c.definitions.new.store) c.in_err-definitions.field-0.0 c.from_residual-in_err-definitions.result
    (seen_from_parts (g.O.Outputs.seen c.args.out.now) c.args.steps.now c.in_ok-store.store.names) (seen_from_parts (g.O.Outputs.seen c.definitions.new.out) c.definitions.new.steps c.definitions.new.store.names) (c.in_ok-store.ensures.starts said is) c.from_residual-in_err-definitions.ensures.1 (c.in_err-definitions.ensures.gives files h).gives)
    (whole_stopped true files (settings_view c.args.inputs.now.settings.now) said c.in_ok-store.store (world_of c.definitions.new.store) c.in_err-definitions.field-0.0 c.from_residual-in_err-definitions.result
    (seen_from_parts (g.O.Outputs.seen c.args.out.now) c.args.steps.now c.in_ok-store.store.names) (seen_from_parts (g.O.Outputs.seen c.definitions.new.out) c.definitions.new.steps c.definitions.new.store.names) (c.in_ok-store.ensures.starts said is) c.from_residual-in_err-definitions.ensures.1 (c.in_err-definitions.ensures.gives files h).few)

pub returns-in_err-definitions-clause-device : goal.returns-in_err-definitions-clause-device
returns-in_err-definitions-clause-device g c =
    fails_stop c.in_err-definitions.field-0.0 c.from_residual-in_err-definitions.result _ _ _ _ c.from_residual-in_err-definitions.ensures.1 c.in_err-definitions.ensures.device

pub returns-clause-gives : goal.returns-clause-gives
unfolding evaluated_files
returns-clause-gives g c = λ files said h is.
    whole_done false files (settings_view c.args.inputs.now.settings.now) said c.in_ok-store.store c.definitions.new.store (seen_from_parts (g.O.Outputs.seen c.args.out.now) c.args.steps.now c.in_ok-store.store.names) (seen_from_parts (g.O.Outputs.seen c.definitions.new.out) c.definitions.new.steps c.definitions.new.store.names)
    (c.in_ok-store.ensures.starts said is) (c.in_ok-definitions.ensures.gives files h).gives

pub returns-clause-ticks : goal.returns-clause-ticks
unfolding evaluated_files evaluated_few
returns-clause-ticks g c = λ files said h is.
    ticked (run_of false files (settings_view c.args.inputs.now.settings.now) said) (run_of true files (settings_view c.args.inputs.now.settings.now) said) (tree_cost files) (Ok c.definitions.new.store) (seen_from_parts (g.O.Outputs.seen c.args.out.now) c.args.steps.now []) (seen_from_parts (g.O.Outputs.seen c.definitions.new.out) c.definitions.new.steps [])
    c.ends_keep_up.ensures (steps_within_cost files (settings_view c.args.inputs.now.settings.now) said)
    (whole_done false files (settings_view c.args.inputs.now.settings.now) said c.in_ok-store.store c.definitions.new.store (seen_from_parts (g.O.Outputs.seen c.args.out.now) c.args.steps.now c.in_ok-store.store.names) (seen_from_parts (g.O.Outputs.seen c.definitions.new.out) c.definitions.new.steps c.definitions.new.store.names)
    (c.in_ok-store.ensures.starts said is) (c.in_ok-definitions.ensures.gives files h).gives)
    (whole_done true files (settings_view c.args.inputs.now.settings.now) said c.in_ok-store.store c.definitions.new.store (seen_from_parts (g.O.Outputs.seen c.args.out.now) c.args.steps.now c.in_ok-store.store.names) (seen_from_parts (g.O.Outputs.seen c.definitions.new.out) c.definitions.new.steps c.definitions.new.store.names)
    (c.in_ok-store.ensures.starts said is) (c.in_ok-definitions.ensures.gives files h).few)
