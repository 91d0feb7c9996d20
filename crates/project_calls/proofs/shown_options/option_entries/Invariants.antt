use Rattle.std.proofs.Common.{◌≡◌, map, take}
use Rattle.option_values.specs.Settings.{named_value}
use Rattle.option_values.specs.SettingsView.{options_in}
use Rattle.build.specs.View.{option_entry_view}
use Rattle.project_calls.specs.Entries.{entry_of}
use Rattle.project_calls.proofs.shown_options.option_entries.Given as goal

-- so many are listed
abbrev pub invariant-loop-i : goal.invariant-loop-i
invariant-loop-i l = map option_entry_view l.entries.items ≡ map entry_of (map named_value (take l.i (options_in l.options)))
