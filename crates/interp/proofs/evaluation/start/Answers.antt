use Rattle.std.proofs.Common.{ap, ◌∙◌}
use Rattle.std.specs.Global.{Global}
use Rattle.std.specs.Rc.{rc_value}
use Rattle.machine_file.specs.View.{machine_in}
use Rattle.world.specs.SettingsView.{settings_view}
use Rattle.world.specs.Start.{first_world}
use Rattle.interp.proofs.Starting.{not_read, was_read}
use Rattle.interp.proofs.evaluation.start.Goals as goal

pub returns-in_err-machine-clause-starts : goal.returns-in_err-machine-clause-starts
returns-in_err-machine-clause-starts c = λ said is.
    not_read (λ m. machine_in (rc_value {Z = Global} m)) (settings_view c.args.inputs.now.settings.now) said c.in_err-machine.field-0.0 c.from_residual.result c.from_residual.ensures.1 (c.in_err-machine.ensures.reads said is)

pub returns-clause-starts : goal.returns-clause-starts
returns-clause-starts c = λ said is.
    was_read (λ m. machine_in (rc_value {Z = Global} m)) (settings_view c.args.inputs.now.settings.now) said c.in_ok-machine.machine c.in_ok-store.store (c.in_ok-machine.ensures.reads said is)
    (c.in_ok-store.ensures.world ∙ ap (λ s. first_world s (machine_in c.in_ok-machine.machine.value)) c.in_ok-copy.ensures)
