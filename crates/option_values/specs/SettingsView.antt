-- Defines options with their values, without their place in memory.
use Rattle.std.specs.Prelude.{ℕ, List, map, string_bytes, String}
use Rattle.std.specs.declared.alloc.Global.{Global}
use denote.Ref.{Bor}
use Rattle.option_values.specs.View.{value_in}
use Rattle.option_values.specs.Values.{Value}
use Rattle.option_values.specs.declared.kind.OptionValue.{OptionValue}
use Rattle.option_values.specs.declared.settings.Setting.{Setting}
use Rattle.option_values.specs.declared.settings.Options.{Options}
use Rattle.option_values.specs.Settings as plain

-- Returns an option with its name.
abbrev pub setting_in : List ℕ → Setting → plain.Setting
setting_in name s = record { name = name; value = value_in s.value; given = s.given }

-- Returns a name and its setting in the code's table as one plain setting.
abbrev pub entry_in : String Global × Setting → plain.Setting
entry_in e = setting_in (string_bytes e.0) e.1

-- Returns the settings of the code's table as plain data, in the same order.
abbrev pub settings_in : List (String Global × Setting) → List plain.Setting
settings_in entries = map entry_in entries

-- Returns the options, in their order.
abbrev pub options_in : Options → List plain.Setting
options_in options = settings_in options.settings.entries

-- Returns an option with its name, as both are shown.
abbrev pub shown_in : Bor (List ℕ) × Bor OptionValue → List ℕ × Value
shown_in e = (e.0.now, value_in e.1.now)
