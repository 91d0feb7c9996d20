use Rattle.world.specs.SettingsView.{settings_view}
use Rattle.interp.specs.Evaluation.{evaluated_files}
use Rattle.meson.proofs.Asked.{run_text}
use Rattle.meson.proofs.Endings.{agrees_told, fails_told}
use Rattle.meson.proofs.fault_run.fault.Goals as goal

pub returns-clause-run : goal.returns-clause-run
returns-clause-run g c = λ files said holds is.
    agrees_told (evaluated_files files (settings_view c.args.settings.now) said) (run_text files (settings_view c.args.settings.now) said) c.ask_run-answer.result c.settle.result
    (g.O.Outputs.seen c.args.out.now) (g.O.Outputs.seen c.settle.new.out) (c.ask_run-answer.ensures.asks files said holds is) c.settle.ensures

pub returns-clause-device : goal.returns-clause-device
returns-clause-device g c =
    fails_told c.ask_run-answer.result c.settle.result (g.T.Tree.seen c.args.tree.now).failures (g.T.Tree.seen c.ask_run-answer.new.tree).failures
    (g.O.Outputs.seen c.args.out.now) (g.O.Outputs.seen c.settle.new.out) c.ask_run-answer.ensures.device c.settle.ensures
