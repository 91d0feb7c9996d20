use Rattle.std.proofs.Common.{◌∙◌, ap, sym, refl}
use Rattle.option_values.specs.View.{value_in}
use Rattle.option_values.specs.SettingsView.{settings_in}
use Rattle.options.proofs.Fills.{takes, filled, kept, not_filled}
use Rattle.options.proofs.fill_in.fill.Goals as goal

pub returns-in-None : goal.returns-in-None
returns-in-None c = not_filled c.args.name.now (value_in c.args.value) c.args.settings.now.entries (sym c.in-None.ensures.value)

pub returns-then-not-given : goal.returns-then-not-given
returns-then-not-given c =
    let old = c.in-Some.setting.now in
    ap settings_in c.replace.ensures.entries
    ∙ filled c.args.name.now (value_in c.args.value) old _ c.args.settings.now.entries
    (takes c.args.value old old.given refl c.if-not-given.true) (sym c.in-Some.ensures.value)

pub returns-else-not-given : goal.returns-else-not-given
returns-else-not-given c =
    kept c.args.name.now (value_in c.args.value) c.in-Some.setting.now c.args.settings.now.entries (sym c.if-not-given.false)
    (sym c.in-Some.ensures.value)
