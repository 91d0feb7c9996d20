-- What look-ups find.
use Rattle.std.proofs.Common.{◌≡◌, ℕ, Bool, true, false, List, [], ◌∷◌, Option, Some, String, string_bytes, refl, cond}
use Rattle.std.specs.Option.{option_map}
use Rattle.std.specs.declared.alloc.Global.{Global}
use Rattle.std.specs.Map.{lookup}
use Rattle.std.specs.Str.{bytes_eq}
use Rattle.option_values.specs.View.{value_in}
use Rattle.option_values.specs.declared.settings.Setting.{Setting}
use Rattle.option_values.specs.Settings as plain
use Rattle.option_values.specs.Settings.{setting_named}
use Rattle.option_values.specs.SettingsView.{entry_in, settings_in}

setting_step : (b : Bool) (e : String Global × Setting) (o : Option Setting) (r : Option plain.Setting)
    → option_map (λ (s : Setting). value_in s.value) o ≡ option_map (λ (s : plain.Setting). s.value) r
    → option_map (λ (s : Setting). value_in s.value) (cond b (Some e.1) o)
    ≡ option_map (λ (s : plain.Setting). s.value) (cond b (Some (entry_in e)) r)
setting_step true e o r h = refl
setting_step false e o r h = h

-- the value of an option that is found
pub setting_looked_up : (name : List ℕ) (es : List (String Global × Setting))
    → option_map (λ (s : Setting). value_in s.value) (lookup (λ k. bytes_eq name (string_bytes k)) es)
    ≡ option_map (λ (s : plain.Setting). s.value) (setting_named (settings_in es) name)
setting_looked_up name [] = refl
setting_looked_up name (e ∷ es) = setting_step (bytes_eq name (string_bytes e.0)) e _ _ (setting_looked_up name es)
