use Rattle.std.proofs.Common.{◌∙◌, ap}
use Rattle.std.specs.Option.{option_map}
use Rattle.option_values.specs.View.{value_in}
use Rattle.option_values.specs.declared.settings.Setting.{Setting}
use Rattle.option_values.proofs.Lookups.{setting_looked_up}
use Rattle.option_values.proofs.settings.Options.get.Goals as goal

pub returns-in-Some : goal.returns-in-Some
returns-in-Some c = ap (option_map (λ (s : Setting). value_in s.value)) c.in-Some.ensures.value
    ∙ setting_looked_up c.args.name.now c.args.self.now.settings.entries

pub returns-in-None : goal.returns-in-None
returns-in-None c = ap (option_map (λ (s : Setting). value_in s.value)) c.in-None.ensures.value
    ∙ setting_looked_up c.args.name.now c.args.self.now.settings.entries
