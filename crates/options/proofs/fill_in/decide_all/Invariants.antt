use Rattle.std.proofs.Common.{◌≡◌}
use Rattle.options.specs.FillIns.{decided_setting}
use Rattle.option_values.specs.SettingsView.{settings_in}
use Rattle.options.proofs.Fills.{map_first}
use Rattle.options.proofs.fill_in.decide_all.Given as goal

abbrev pub invariant-loop-i : goal.invariant-loop-i
invariant-loop-i l = settings_in l.settings.entries ≡ map_first (decided_setting l.state) l.i (settings_in l.fn.settings.entries)
