use Rattle.std.proofs.Common.{◌∙◌, ap, codes, List, ℕ}
use Rattle.std.specs.Option.{option_and_then}
use Rattle.option_values.specs.Values.{Combo}
use Rattle.option_values.specs.Settings.{fill}
use Rattle.options.specs.FillIns.{build_types, type_among, with_type, by_buildtype}
use Rattle.option_values.specs.SettingsView.{settings_in}
use Rattle.options.proofs.fill_in.by_buildtype.Goals as goal

pub returns-in_default : goal.returns-in_default
unfolding by_buildtype
returns-in_default c = ap (λ o. with_type (option_and_then (type_among build_types) o) (settings_in c.args.settings.now.entries))
    c.in_default.ensures

pub returns-in_default-build_type : goal.returns-in_default-build_type
unfolding by_buildtype
returns-in_default-build_type c = ap (λ o. with_type o (settings_in c.args.settings.now.entries)) c.in_default-build_type.ensures
    ∙ ap (λ o. with_type (option_and_then (type_among build_types) o) (settings_in c.args.settings.now.entries)) c.in-Some.ensures

pub returns : goal.returns
unfolding by_buildtype
returns c = c.fill-2.ensures
    ∙ ap (λ (t : List ℕ). fill (codes "optimization") (Combo t) (settings_in c.fill.new.settings.entries)) c.in_ok-optimization.ensures.ok
    ∙ ap (fill (codes "optimization") (Combo c.in-Some-build_type.build_type.optimization.now)) c.fill.ensures
    ∙ ap (λ o. with_type o (settings_in c.args.settings.now.entries)) c.in-Some-build_type.ensures
    ∙ ap (λ o. with_type (option_and_then (type_among build_types) o) (settings_in c.args.settings.now.entries)) c.in-Some.ensures
