use Rattle.std.specs.Global.{Global}
use Rattle.std.specs.Rc.{rc_value}
use Rattle.machine_file.specs.View.{machine_in}
use Rattle.world.specs.SettingsView.{settings_view}
use Rattle.meson.proofs.Asked.{asks_read, asks_unread, fails_unread}
use Rattle.meson.proofs.question_run.ask.Goals as goal

pub returns-in_err-machine-clause-asks : goal.returns-in_err-machine-clause-asks
returns-in_err-machine-clause-asks g c = λ files said holds is.
    asks_unread (λ m. machine_in (rc_value {Z = Global} m)) files (settings_view c.args.inputs.now.settings.now) said c.in_err-machine.field-0.0 c.from_residual.result c.from_residual.ensures.1
    (c.in_err-machine.ensures.reads said is)

pub returns-in_err-machine-clause-device : goal.returns-in_err-machine-clause-device
returns-in_err-machine-clause-device g c =
    fails_unread c.read_machine.result c.in_err-machine.field-0.0 c.from_residual.result (g.T.Tree.seen c.args.tree.now).failures c.from_residual.ensures.1 c.in_err-machine.ensures.quiet

pub returns-clause-asks : goal.returns-clause-asks
returns-clause-asks g c = λ files said holds is.
    asks_read (λ m. machine_in (rc_value {Z = Global} m)) files (settings_view c.args.inputs.now.settings.now) said c.in_ok-machine.machine c.ask_over.result (c.in_ok-machine.ensures.reads said is)
    (c.ask_over.ensures.asks files holds)
