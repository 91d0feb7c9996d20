use Rattle.std.proofs.Common.{◌≡◌, [], take, map}
use Rattle.std.specs.List.{fold}
use Rattle.option_values.specs.View.{row_in}
use Rattle.option_values.specs.SettingsView.{settings_in}
use Rattle.option_values.specs.Settings.{add_setting}
use Rattle.options.proofs.built_in.built_in_settings.Given as goal

abbrev pub invariant-loop-row : goal.invariant-loop-row
invariant-loop-row l = settings_in l.settings.entries ≡ fold add_setting [] (map row_in (take l.row-index l.row-items))
