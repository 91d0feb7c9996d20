use Rattle.std.proofs.Common.{◌∙◌, ap, codes, List, ℕ, Bool, if◌then◌else◌}
use Rattle.option_values.specs.Values.{Text}
use Rattle.option_values.specs.Settings.{fill}
use Rattle.options.specs.FillIns.{by_prefix}
use Rattle.option_values.specs.SettingsView.{settings_in}
use Rattle.options.proofs.fill_in.by_prefix.Goals as goal

pub returns-then-not-is_usr : goal.returns-then-not-is_usr
unfolding by_prefix
returns-then-not-is_usr c =
    let ss = settings_in c.args.settings.now.entries in
    ap (λ (b : Bool). if b then fill (codes "sysconfdir") (Text (codes "/etc")) ss else ss) c.if-not-is_usr.ensures

pub returns : goal.returns
unfolding by_prefix
returns c =
    let ss = settings_in c.args.settings.now.entries in
    c.fill.ensures ∙ ap (λ (t : List ℕ). fill (codes "sysconfdir") (Text t) ss) c.in_ok-folder.ensures.ok
    ∙ ap (λ (b : Bool). if b then fill (codes "sysconfdir") (Text (codes "/etc")) ss else ss) c.if-not-is_usr.ensures
