-- What look-ups find.
use Rattle.std.proofs.Common.{◌≡◌, ℕ, Bool, true, false, List, [], ◌∷◌, Option, Some, None, String, string_bytes, refl, ap, ◌∙◌, cond}
use Rattle.std.specs.Option.{option_map, option_and_then, option_copied}
use Rattle.std.specs.declared.alloc.Global.{Global}
use Rattle.std.specs.Map.{lookup}
use Rattle.std.specs.Str.{bytes_eq}
use denote.Ref.{Bor}
use Rattle.option_values.specs.Kinds.{Kind}
use Rattle.option_values.specs.Values.{Value}
use Rattle.option_values.specs.View.{kind_in, value_in, kinds_in, AreBuiltIns}
use Rattle.option_values.specs.declared.kind.OptionKind.{OptionKind}
use Rattle.option_values.specs.declared.settings.Setting.{Setting}
use Rattle.option_values.specs.BuiltIns.{NamedKind, kind_among, built_in_kind}
use Rattle.option_values.specs.Settings as plain
use Rattle.option_values.specs.Settings.{setting_named}
use Rattle.option_values.specs.SettingsView.{entry_in, settings_in}

kinds_copied : (r : Option (Bor OptionKind)) → option_map (λ k. kind_in k.now) r ≡ option_map kind_in (option_copied r)
kinds_copied None = refl
kinds_copied (Some x) = refl

kind_step : (b : Bool) (k : OptionKind) (o : Option OptionKind) (r : Option Kind) → option_map kind_in o ≡ r
    → option_map kind_in (cond b (Some k) o) ≡ cond b (Some (kind_in k)) r
kind_step true k o r e = refl
kind_step false k o r e = e

kind_looked_up : (name : List ℕ) (es : List (String Global × OptionKind))
    → option_map kind_in (lookup (λ k. bytes_eq name (string_bytes k)) es) ≡ kind_among (kinds_in es) name
kind_looked_up name [] = refl
kind_looked_up name (e ∷ es) = kind_step (bytes_eq name (string_bytes e.0)) e.1 _ _ (kind_looked_up name es)

pub built_in_found : (name : List ℕ) (es : List (String Global × OptionKind)) (r : Option (Bor OptionKind)) → AreBuiltIns es
    → option_copied r ≡ lookup (λ k. bytes_eq name (string_bytes k)) es
    → option_map (λ k. kind_in k.now) r ≡ built_in_kind name
unfolding built_in_kind
built_in_found name es r are e = kinds_copied r ∙ ap (option_map kind_in) e ∙ kind_looked_up name es
    ∙ ap (λ (ks : List NamedKind). kind_among ks name) are

-- ---- settings

-- a part of the value of an option that is found, where it has that part
pub part_looked_up : {X : Type 0} (f : Value → Option X) (name : List ℕ) (es : List (String Global × Setting)) (o : Option Setting)
    → o ≡ lookup (λ k. bytes_eq name (string_bytes k)) es
    → option_and_then (λ (s : Setting). f (value_in s.value)) o
    ≡ option_and_then (λ (s : plain.Setting). f s.value) (setting_named (settings_in es) name)
part_looked_up {X} f name es o e = ap (option_and_then (λ (s : Setting). f (value_in s.value))) e ∙ part es
  where
    part_step : (b : Bool) (e : String Global × Setting) (o : Option Setting) (r : Option plain.Setting)
        → option_and_then (λ (s : Setting). f (value_in s.value)) o ≡ option_and_then (λ (s : plain.Setting). f s.value) r
        → option_and_then (λ (s : Setting). f (value_in s.value)) (cond b (Some e.1) o)
        ≡ option_and_then (λ (s : plain.Setting). f s.value) (cond b (Some (entry_in e)) r)
    part_step true e o r h = refl
    part_step false e o r h = h

    part : (es : List (String Global × Setting))
        → option_and_then (λ (s : Setting). f (value_in s.value)) (lookup (λ k. bytes_eq name (string_bytes k)) es)
        ≡ option_and_then (λ (s : plain.Setting). f s.value) (setting_named (settings_in es) name)
    part [] = refl
    part (e ∷ es) = part_step (bytes_eq name (string_bytes e.0)) e _ _ (part es)
