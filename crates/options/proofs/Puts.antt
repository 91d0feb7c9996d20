-- Maps into which something is put.
use Rattle.std.proofs.Common.{◌≡◌, Bool, true, false, List, [], ◌∷◌, String, string_bytes, refl, sym, ap, ◌∙◌, map}
use Rattle.std.proofs.Common.{length, if◌then◌else◌}
use Rattle.std.specs.List.{fold}
use Rattle.std.proofs.lemmas.List.{length-map}
use Rattle.option_values.specs.declared.built_in.BuiltIn.{BuiltIn}
use Rattle.std.specs.declared.alloc.Global.{Global}
use Rattle.std.specs.String.{string_eq}
use Rattle.support.specs.Maps.{insert_entry}
use Rattle.option_values.specs.declared.settings.Setting.{Setting}
use Rattle.option_values.specs.BuiltIns.{built_ins}
use Rattle.option_values.specs.View.{row_in}
use Rattle.option_values.specs.Settings as plain
use Rattle.option_values.specs.Settings.{settings_with, add_setting, built_in_settings}
use Rattle.option_values.specs.SettingsView.{setting_in, entry_in, settings_in}

put_step : (b : Bool) (e : String Global × Setting) (s : Setting) (es more : List (String Global × Setting)) (rest : List plain.Setting)
    → settings_in more ≡ rest
    → settings_in (if b then (e.0, s) ∷ es else e ∷ more)
    ≡ (if b then setting_in (string_bytes e.0) s ∷ settings_in es else entry_in e ∷ rest)
put_step true e s es more rest h = refl
put_step false e s es more rest h = ap (λ (l : List plain.Setting). entry_in e ∷ l) h

pub put_seen : (k : String Global) (s : Setting) (es : List (String Global × Setting))
    → settings_in (insert_entry string_eq es k s) ≡ settings_with (setting_in (string_bytes k) s) (settings_in es)
put_seen k s [] = refl
put_seen k s (e ∷ es) = put_step (string_eq k e.0) e s es _ _ (put_seen k s es)

-- ---- the options that every project has, put into an empty map one after another

pub all_settings : fold add_setting [] built_ins ≡ built_in_settings
unfolding built_ins built_in_settings
all_settings = refl

pub seventeen : (xs : List BuiltIn) → map row_in xs ≡ built_ins → length xs ≡ 17
unfolding built_ins
seventeen xs e = sym (length-map xs row_in) ∙ ap length e
