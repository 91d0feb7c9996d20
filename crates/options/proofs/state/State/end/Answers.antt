use Rattle.std.proofs.Common.{◌∙◌, sym, ap, Option, List, Ok}
use Rattle.std.specs.Option.{option_map}
use Rattle.options.specs.declared.fault.OptionFault.{OptionFault}
use Rattle.option_values.specs.Settings as plain
use Rattle.options.specs.Resolves.{Resolution, outcome_of}
use Rattle.option_values.specs.View.{strings_in}
use Rattle.options.specs.View.{fault_in}
use Rattle.option_values.specs.SettingsView.{settings_in}
use Rattle.options.proofs.state.State.end.Goals as goal

pub returns-in-Some : goal.returns-in-Some
returns-in-Some c = ap (λ (o : Option OptionFault). let r : Resolution = record
    { unknown = strings_in c.args.self.unknown.items; outcome = outcome_of (option_map fault_in o) (settings_in c.args.self.settings.entries) } in r)
    (sym c.in-Some.is)

pub returns-in_ok-fill_in-in-None : goal.returns-in_ok-fill_in-in-None
returns-in_ok-fill_in-in-None c =
    ap (λ (ss : List plain.Setting). let r : Resolution = record { unknown = strings_in c.args.self.unknown.items; outcome = Ok ss } in r)
    (c.new.ensures ∙ c.in_ok-fill_in-in-None.ensures)
    ∙ ap (λ (o : Option OptionFault). let r : Resolution = record
    { unknown = strings_in c.args.self.unknown.items; outcome = outcome_of (option_map fault_in o) (settings_in c.args.self.settings.entries) } in r)
    (sym c.in-None.is)
