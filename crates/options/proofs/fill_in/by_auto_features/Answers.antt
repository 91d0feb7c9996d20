use Rattle.std.proofs.Common.{◌∙◌, ap}
use Rattle.options.specs.FillIns.{with_state, by_auto_features}
use Rattle.option_values.specs.SettingsView.{settings_in}
use Rattle.options.proofs.fill_in.by_auto_features.Goals as goal

pub returns-in-Some : goal.returns-in-Some
unfolding by_auto_features
returns-in-Some c = c.decide_all.ensures ∙ ap (λ o. with_state o (settings_in c.args.settings.now.entries)) c.in-Some.ensures

pub returns-in-None : goal.returns-in-None
unfolding by_auto_features
returns-in-None c = ap (λ o. with_state o (settings_in c.args.settings.now.entries)) c.in-None.ensures
