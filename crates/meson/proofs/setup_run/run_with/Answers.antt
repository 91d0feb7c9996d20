use Rattle.std.proofs.Common.{[]}
use Rattle.world.specs.SettingsView.{settings_view}
use Rattle.world.specs.Trace.{seen_from_parts}
use Rattle.interp.specs.Evaluation.{evaluated_files}
use Rattle.meson.proofs.Runs.{agrees, failures_settled, means, rises, rises_then, room_after}
use Rattle.meson.proofs.setup_run.run_with.Goals as goal

pub settle-requires : goal.settle-requires
settle-requires g c =
    let failed = c.evaluate-answer.ensures.device in
    room_after c.evaluate-answer.result (g.T.Tree.seen c.args.tree.now).failures (g.O.Outputs.seen c.args.out.now).failures
    (g.T.Tree.seen c.evaluate-answer.new.tree).failures (g.O.Outputs.seen c.evaluate-answer.new.out).failures failed.of_tree failed.of_out failed.sum c.requires.out

pub returns-clause-run : goal.returns-clause-run
returns-clause-run g c = λ files said holds is.
    agrees (evaluated_files files (settings_view c.args.inputs.now.settings.now) said) c.evaluate-answer.result c.settle.result
    (seen_from_parts (g.O.Outputs.seen c.args.out.now) c.new_steps-steps.result []) (seen_from_parts (g.O.Outputs.seen c.evaluate-answer.new.out) c.evaluate-answer.new.steps []) (g.O.Outputs.seen c.settle.new.out)
    (c.evaluate-answer.ensures.gives files said holds is) c.settle.ensures.settles

pub returns-clause-meaning : goal.returns-clause-meaning
returns-clause-meaning g c = λ files said holds is.
    means (evaluated_files files (settings_view c.args.inputs.now.settings.now) said) c.evaluate-answer.result c.settle.result
    (seen_from_parts (g.O.Outputs.seen c.args.out.now) c.new_steps-steps.result []) (seen_from_parts (g.O.Outputs.seen c.evaluate-answer.new.out) c.evaluate-answer.new.steps []) (g.O.Outputs.seen c.settle.new.out)
    (c.evaluate-answer.ensures.gives files said holds is) c.settle.ensures.settles c.settle.ensures.meaning (λ done meant. meant)

pub returns-clause-there : goal.returns-clause-there
returns-clause-there g c = λ files said holds is.
    means (evaluated_files files (settings_view c.args.inputs.now.settings.now) said) c.evaluate-answer.result c.settle.result
    (seen_from_parts (g.O.Outputs.seen c.args.out.now) c.new_steps-steps.result []) (seen_from_parts (g.O.Outputs.seen c.evaluate-answer.new.out) c.evaluate-answer.new.steps []) (g.O.Outputs.seen c.settle.new.out)
    (c.evaluate-answer.ensures.gives files said holds is) c.settle.ensures.settles c.settle.ensures.meaning
    (λ done meant. c.needs_are_there.ensures files (settings_view c.args.inputs.now.settings.now) said done meant)

pub returns-clause-device : goal.returns-clause-device
returns-clause-device g c =
    let failed = c.evaluate-answer.ensures.device in
    let out = g.O.Outputs.seen c.args.out.now in
    let mid = g.O.Outputs.seen c.evaluate-answer.new.out in
    let after = g.O.Outputs.seen c.settle.new.out in
    record {
      of_tree = failed.of_tree;
      of_out = rises_then out.failures mid.failures after.failures failed.of_out (rises c.evaluate-answer.result c.settle.result mid after c.settle.ensures.settles);
      sum = failures_settled c.evaluate-answer.result c.settle.result (g.T.Tree.seen c.args.tree.now).failures out.failures
          (g.T.Tree.seen c.evaluate-answer.new.tree).failures mid after failed.sum c.settle.ensures.settles;
    }
