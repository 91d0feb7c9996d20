use Rattle.std.proofs.Common.{◌∙◌, ap, sym, String}
use Rattle.std.specs.declared.alloc.Global.{Global}
use Rattle.option_values.specs.declared.settings.Setting.{Setting}
use Rattle.option_values.specs.SettingsView.{settings_in}
use Rattle.options.specs.FillIns.{decided_setting}
use Rattle.options.proofs.Fills.{changed, not_changed, none_changed, takes_state, keeps_state}
use Rattle.options.proofs.fill_in.decide_at.Goals as goal

pub returns-in-None : goal.returns-in-None
returns-in-None c = none_changed (decided_setting c.args.state) c.args.i c.args.settings.now.entries c.in-None.ensures.entry

pub returns-then-is_auto : goal.returns-then-is_auto
returns-then-is_auto c =
    let entry : String Global × Setting = (c.in-Some.entry.0.now, c.in-Some.entry.1.now) in
    ap settings_in c.set_at.ensures.entries
    ∙ changed (decided_setting c.args.state) c.args.i entry _ c.args.settings.now.entries c.in-Some.ensures.entry
    (takes_state c.args.state entry.1 c.if-is_auto.ensures)

pub returns-else-is_auto : goal.returns-else-is_auto
returns-else-is_auto c =
    let entry : String Global × Setting = (c.in-Some.entry.0.now, c.in-Some.entry.1.now) in
    not_changed (decided_setting c.args.state) c.args.i entry c.args.settings.now.entries c.in-Some.ensures.entry
    (keeps_state c.args.state entry (sym c.if-is_auto.ensures))
