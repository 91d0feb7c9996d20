use Rattle.std.proofs.Common.{◌∙◌, ap, [], List, map, arith}
use Rattle.std.specs.List.{fold}
use Rattle.std.proofs.lemmas.List.{take_all}
use Rattle.option_values.specs.declared.built_in.BuiltIn.{BuiltIn}
use Rattle.option_values.specs.Settings.{add_setting}
use Rattle.option_values.specs.View.{row_in}
use Rattle.option_values.specs.SettingsView.{settings_in}
use Rattle.options.proofs.Folds.{step_more}
use Rattle.options.proofs.Puts.{all_settings, seventeen}
use Rattle.options.proofs.built_in.built_in_settings.Goals as goal

pub loop-row-init : goal.loop-row-init
loop-row-init c = ap settings_in c.new_map-settings.ensures.entries

pub loop-row-preserved : goal.loop-row-preserved
loop-row-preserved c = step_more add_setting row_in [] _ _ _ c.loop-row.row-index _ c.in_ok-put_value_of.ensures c.loop-row.invariant
    (omega (arith, seventeen _ c.built_ins-row-items.ensures, c.loop-row-test.true))

pub returns : goal.returns
returns c =
    c.loop-row.invariant
    ∙ ap (λ (xs : List BuiltIn). fold add_setting [] (map row_in xs))
    (take_all c.loop-row.row-index _ (omega (arith, seventeen _ c.built_ins-row-items.ensures, c.loop-row-test.false)))
    ∙ ap (fold add_setting []) c.built_ins-row-items.ensures ∙ all_settings
