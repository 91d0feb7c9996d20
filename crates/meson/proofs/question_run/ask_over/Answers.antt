use Rattle.std.proofs.Common.{ap, ◌∙◌}
use Rattle.machine_file.specs.View.{machine_in}
use Rattle.world.specs.Plan.{carry}
use Rattle.world.specs.SettingsView.{settings_view}
use Rattle.world.specs.Start.{first_world}
use Rattle.world.specs.Store.{world_of}
use Rattle.interp.specs.Evaluation.{definitions}
use Rattle.meson.proofs.Asked.{fails_none, fails_stopped, over_asked, over_none, over_stopped}
use Rattle.meson.proofs.question_run.ask_over.Goals as goal

pub returns-in_err-own-clause-asks : goal.returns-in_err-own-clause-asks
returns-in_err-own-clause-asks g c = λ files h. over_none files (settings_view c.args.settings.now) (machine_in c.args.machine.now.value) c.from_residual.result c.from_residual.ensures.1

pub returns-in_err-own-clause-device : goal.returns-in_err-own-clause-device
returns-in_err-own-clause-device g c = fails_none c.from_residual.result (g.T.Tree.seen c.args.tree.now).failures c.from_residual.ensures.1

pub returns-in_err-copy-clause-asks : goal.returns-in_err-copy-clause-asks
returns-in_err-copy-clause-asks g c = λ files h. over_none files (settings_view c.args.settings.now) (machine_in c.args.machine.now.value) c.from_residual-in_err-copy.result c.from_residual-in_err-copy.ensures.1

pub returns-in_err-copy-clause-device : goal.returns-in_err-copy-clause-device
returns-in_err-copy-clause-device g c = fails_none c.from_residual-in_err-copy.result (g.T.Tree.seen c.args.tree.now).failures c.from_residual-in_err-copy.ensures.1

pub returns-in_err-clone-clause-asks : goal.returns-in_err-clone-clause-asks
returns-in_err-clone-clause-asks g c = λ files h. over_none files (settings_view c.args.settings.now) (machine_in c.args.machine.now.value) c.from_residual-in_err-clone.result c.from_residual-in_err-clone.ensures.1

pub returns-in_err-clone-clause-device : goal.returns-in_err-clone-clause-device
returns-in_err-clone-clause-device g c = fails_none c.from_residual-in_err-clone.result (g.T.Tree.seen c.args.tree.now).failures c.from_residual-in_err-clone.ensures.1

pub returns-in_err-store-clause-asks : goal.returns-in_err-store-clause-asks
returns-in_err-store-clause-asks g c = λ files h. over_none files (settings_view c.args.settings.now) (machine_in c.args.machine.now.value) c.from_residual-in_err-store.result c.from_residual-in_err-store.ensures.1

pub returns-in_err-store-clause-device : goal.returns-in_err-store-clause-device
returns-in_err-store-clause-device g c = fails_none c.from_residual-in_err-store.result (g.T.Tree.seen c.args.tree.now).failures c.from_residual-in_err-store.ensures.1

pub returns-in_err-fault-clause-asks : goal.returns-in_err-fault-clause-asks
returns-in_err-fault-clause-asks g c = λ files h.
    over_stopped files (settings_view c.args.settings.now) (machine_in c.args.machine.now.value) (carry files definitions (world_of c.in_ok-store.store))
    c.ask_in.new.store.asked c.in_err-fault.field-0.0 c.from_residual-in_err-fault.result c.from_residual-in_err-fault.ensures.1 (c.in_err-fault.ensures.asks files h)

pub returns-in_err-fault-clause-device : goal.returns-in_err-fault-clause-device
returns-in_err-fault-clause-device g c =
    fails_stopped c.in_err-fault.field-0.0 c.from_residual-in_err-fault.result (g.T.Tree.seen c.args.tree.now).failures (g.T.Tree.seen c.ask_in.new.tree).failures
    c.from_residual-in_err-fault.ensures.1 c.in_err-fault.ensures.device

pub returns-clause-asks : goal.returns-clause-asks
returns-clause-asks g c = λ files h.
    over_asked files (settings_view c.args.settings.now) (machine_in c.args.machine.now.value) (world_of c.in_ok-store.store)
    (record { store = c.ask_in.new.store; machine = c.in_ok-own.own; fault = c.in_ok-fault.fault })
    (c.in_ok-store.ensures.world ∙ ap (λ s. first_world s (machine_in c.in_ok-clone.field-0.value)) c.in_ok-copy.ensures
    ∙ ap (λ m. first_world (settings_view c.args.settings.now) (machine_in m)) c.in_ok-clone.ensures.cases)
    (c.in_ok-fault.ensures.asks files h) (ap machine_in c.in_ok-own.ensures.cases)
