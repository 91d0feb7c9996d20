use Rattle.std.proofs.Common.{◌∙◌, ap, false}
use Rattle.option_values.specs.Values.{Value}
use Rattle.option_values.specs.Settings.{settings_with}
use Rattle.option_values.specs.SettingsView.{settings_in}
use Rattle.options.proofs.built_in.put_value_of.Goals as goal

pub returns : goal.returns
returns c = c.in_ok-put.ensures
    ∙ ap (λ (v : Value). settings_with (record { name = c.args.row.now.name.now; value = v; given = false })
    (settings_in c.args.settings.now.entries)) c.in_ok-value.ensures
