-- Defines the plain values of the code's types.
use Rattle.std.specs.Prelude.{ℕ, List, map, Result, Ok, Err, string_bytes}
use Rattle.std.specs.Option.{option_map}
use Rattle.option_values.specs.View.{strings_in}
use Rattle.option_values.specs.SettingsView.{options_in, setting_in, settings_in}
use Rattle.machine_file.specs.Files as machine
use Rattle.machine_file.specs.View.{value_in as machine_value_in}
use Rattle.machine_file.specs.declared.machine.Entry.{Entry}
use Rattle.options.specs.declared.fault.OptionFault.{OptionFault}
use Rattle.option_values.specs.declared.settings.Options.{Options}
use Rattle.options.specs.declared.state.State.{State}
use Rattle.options.specs.declared.verdict.Verdict.{Verdict}
use Rattle.options.specs.declared.verdict.Verdict.TheVariants as verdict
use Rattle.options.specs.declared.resolution.Resolved.{Resolved}
use Rattle.options.specs.declared.fill_in.BuildType.{BuildType}
use Rattle.options.specs.option_file.Declarations.{Declaration}
use Rattle.options.specs.option_file.View.{options_in as declared_in}
use Rattle.options.specs.declared.known_options.Known.{Known}
use Rattle.options.specs.declared.place.ProjectDefault.{ProjectDefault}
use Rattle.options.specs.declared.place.ProjectDefault.TheVariants as given
use Rattle.options.specs.FillIns as filling
use Rattle.options.specs.Faults.{OptionFaultData}
use Rattle.option_values.specs.Settings as plain
use Rattle.options.specs.Resolves as resolving
use Rattle.options.specs.Verdicts as judged

-- Returns the fault of an option's value as plain data, with its details as bytes.
abbrev pub fault_in : OptionFault → OptionFaultData
fault_in f = record { place = f.place; refusal = f.refusal; detail = string_bytes f.detail }

-- Returns a verdict of the code as plain data. A setting gets the name of its option.
abbrev pub verdict_in : Verdict → judged.Verdict
verdict_in (verdict.Sets name setting) = judged.Sets (setting_in name.now setting)
verdict_in (verdict.Warns name) = judged.Warns name.now
verdict_in (verdict.Refuses fault) = judged.Refuses (fault_in fault)

-- Returns the state of the code between two verdicts as plain data, with the settings in the order of the table.
abbrev pub state_in : State → resolving.State
state_in s = record { unknown = strings_in s.unknown.items; settings = settings_in s.settings.entries; fault = option_map fault_in s.fault }

-- Returns the final options, or the fault, as plain data.
abbrev pub outcome_in : Result Options OptionFault → Result (List plain.Setting) OptionFaultData
outcome_in (Ok options) = Ok (options_in options)
outcome_in (Err fault) = Err (fault_in fault)

-- Returns the result of the code as plain data: the names of unknown options, and the final options or the fault.
abbrev pub resolved_in : Resolved → resolving.Resolution
resolved_in r = record { unknown = strings_in r.unknown.items; outcome = outcome_in r.outcome }

-- Returns a key of a machine file with its entry.
abbrev pub key_in : List ℕ → Entry → machine.Entry
key_in key e = record { key = key; value = machine_value_in e.value; line = e.line }

-- Returns the declared options, among those that are known.
abbrev pub declared_of : Known → List Declaration
declared_of known = declared_in known.declared.now

-- ---- the inputs

-- Returns an item of `default_options` as plain data, with each borrowed text as its bytes.
abbrev pub default_in : ProjectDefault → judged.Default
default_in (given.Assignment text) = judged.Assignment text.now
default_in (given.Entry name value) = judged.Entry name.now value.now

-- Returns the items of `default_options` as plain data, in the same order.
abbrev pub defaults_in : List ProjectDefault → List judged.Default
defaults_in defaults = map default_in defaults

-- Returns what the type of build with this name decides.
abbrev pub type_in : List ℕ → BuildType → filling.BuildType
type_in name t = record { name = name; debug = t.debug; optimization = t.optimization.now }
