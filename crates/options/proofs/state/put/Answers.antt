use Rattle.std.proofs.Common.{◌∙◌, ap, List, ℕ}
use Rattle.option_values.specs.Settings.{settings_with}
use Rattle.option_values.specs.SettingsView.{setting_in, settings_in}
use Rattle.options.proofs.Puts.{put_seen}
use Rattle.options.proofs.state.put.Goals as goal

pub returns : goal.returns
returns c = ap settings_in c.in_ok-insert.ensures.entries ∙ put_seen c.in_ok-name.name c.args.setting _
    ∙ ap (λ (n : List ℕ). settings_with (setting_in n c.args.setting) (settings_in c.args.settings.now.entries)) c.in_ok-name.ensures.ok
