-- Maps in which some values are filled in.
use Rattle.std.proofs.Common.{◌≡◌, ℕ, zero, suc, Bool, true, false, List, [], ◌∷◌, Option, Some, None, String, string_bytes, refl, sym, ap}
use Rattle.std.proofs.Common.{◌∙◌, cond, map, length, if◌then◌else◌}
use Rattle.std.specs.List.{slice_get}
use Rattle.std.specs.declared.alloc.Global.{Global}
use Rattle.std.specs.Map.{lookup, set_value}
use Rattle.std.specs.Str.{bytes_eq}
use Rattle.support.specs.Maps.{set_value_at}
use Rattle.option_values.specs.Values.{Value}
use Rattle.option_values.specs.declared.settings.Setting.{Setting}
use Rattle.option_values.specs.Settings as plain
use Rattle.option_values.specs.Settings.{fill, or_given, change_at}
use Rattle.option_values.specs.declared.kind.OptionValue.{OptionValue}
use Rattle.option_values.specs.declared.kind.FeatureState.{FeatureState}
use Rattle.option_values.specs.declared.kind.OptionValue.TheVariants as kinds
use Rattle.option_values.specs.View.{value_in}
use Rattle.option_values.specs.SettingsView.{setting_in, entry_in, settings_in}
use Rattle.options.specs.FillIns.{is_auto, decided_setting}
use Rattle.options.proofs.Decided.{is_decided, stays_decided}

-- an option of any name has become what f makes of it
abbrev pub Becomes : (plain.Setting → plain.Setting) → Setting → Setting → Type 0
Becomes f old new = (name : List ℕ) → setting_in name new ≡ f (setting_in name old)

-- where no place gave the option a value, it takes this one
pub takes : (value : OptionValue) (old : Setting) (g : Bool) → g ≡ old.given → g ≡ false
    → Becomes (or_given (value_in value)) old (record { value = value; given = g })
takes value old g e free name =
    ap (λ (b : Bool). setting_in name (record { value = value; given = b })) free
    ∙ ap (λ (b : Bool). if b then setting_in name (record { value = old.value; given = b }) else setting_in name
    (record { value = value; given = b }))
    (sym free ∙ e)

fill_here : (b : Bool) (v : Value) (e : String Global
    × Setting) (es more : List (String Global × Setting)) (o : Option Setting) (old new : Setting) (rest : List plain.Setting)
    → Becomes (or_given v) old new → cond b (Some e.1) o ≡ Some old → (o ≡ Some old → settings_in more ≡ rest)
    → settings_in (cond b ((e.0, new) ∷ es) (e ∷ more)) ≡ (if b then or_given v (entry_in e) ∷ settings_in es else entry_in e ∷ rest)
fill_here true v e es more o old new rest f h r =
    let same : e.1 ≡ old = cc in
    ap (λ (s : plain.Setting). s ∷ settings_in es) (f (string_bytes e.0)
    ∙ ap (λ (s : Setting). or_given v (setting_in (string_bytes e.0) s)) (sym same))
fill_here false v e es more o old new rest f h r = ap (λ (l : List plain.Setting). entry_in e ∷ l) (r h)

pub filled : (name : List ℕ) (v : Value) (old new : Setting) (es : List (String Global × Setting)) → Becomes (or_given v) old new
    → lookup (λ k. bytes_eq name (string_bytes k)) es ≡ Some old
    → settings_in (set_value (λ k. bytes_eq name (string_bytes k)) es new) ≡ fill name v (settings_in es)
filled name v old new [] f h = absurd cc
filled name v old new (e ∷ es) f h = fill_here (bytes_eq name (string_bytes e.0)) v e es _ _ old new _ f h (filled name v old new es f)

-- where a place gave it one, it keeps that
kept_here : (b : Bool) (v : Value) (e : String Global × Setting) (es : List (String Global × Setting)) (o : Option Setting) (old : Setting)
    (rest : List plain.Setting) → true ≡ old.given → cond b (Some e.1) o ≡ Some old → (o ≡ Some old → settings_in es ≡ rest)
    → settings_in (e ∷ es) ≡ (if b then or_given v (entry_in e) ∷ settings_in es else entry_in e ∷ rest)
kept_here true v e es o old rest g h r =
    let same : e.1 ≡ old = cc in
    ap (λ (b : Bool). (if b then entry_in e else record (entry_in e) { value = v }) ∷ settings_in es)
    (g ∙ ap (λ (s : Setting). s.given) (sym same))
kept_here false v e es o old rest g h r = ap (λ (l : List plain.Setting). entry_in e ∷ l) (r h)

pub kept : (name : List ℕ) (v : Value) (old : Setting) (es : List (String Global × Setting)) → true ≡ old.given
    → lookup (λ k. bytes_eq name (string_bytes k)) es ≡ Some old → settings_in es ≡ fill name v (settings_in es)
kept name v old [] g h = absurd cc
kept name v old (e ∷ es) g h = kept_here (bytes_eq name (string_bytes e.0)) v e es _ old _ g h (kept name v old es g)

not_here : (b : Bool) (v : Value) (e : String Global
    × Setting) (es : List (String Global × Setting)) (o : Option Setting) (rest : List plain.Setting)
    → cond b (Some e.1) o ≡ None → (o ≡ None → settings_in es ≡ rest)
    → settings_in (e ∷ es) ≡ (if b then or_given v (entry_in e) ∷ settings_in es else entry_in e ∷ rest)
not_here true v e es o rest h r = absurd cc
not_here false v e es o rest h r = ap (λ (l : List plain.Setting). entry_in e ∷ l) (r h)

pub not_filled : (name : List ℕ) (v : Value) (es : List (String Global × Setting)) → lookup (λ k. bytes_eq name (string_bytes k)) es ≡ None
    → settings_in es ≡ fill name v (settings_in es)
not_filled name v [] h = refl
not_filled name v (e ∷ es) h = not_here (bytes_eq name (string_bytes e.0)) v e es _ _ h (not_filled name v es)

-- ---- one option after another

-- f at the first n of these
abbrev pub map_first : (plain.Setting → plain.Setting) → ℕ → List plain.Setting → List plain.Setting
map_first f n [] = []
map_first f zero (x ∷ xs) = x ∷ xs
map_first f (suc n) (x ∷ xs) = f x ∷ map_first f n xs

pub none_first : (f : plain.Setting → plain.Setting) (xs : List plain.Setting) → map_first f 0 xs ≡ xs
none_first f [] = refl
none_first f (x ∷ xs) = refl

pub all_first : (f : plain.Setting → plain.Setting) (xs : List plain.Setting) → map_first f (length xs) xs ≡ map f xs
all_first f [] = refl
all_first f (x ∷ xs) = ap (λ (l : List plain.Setting). f x ∷ l) (all_first f xs)

-- and at one more
pub one_more_first : (f : plain.Setting → plain.Setting) (i : ℕ) (xs : List plain.Setting)
    → change_at f i (map_first f i xs) ≡ map_first f (suc i) xs
one_more_first f i [] = refl
one_more_first f zero (x ∷ xs) = ap (λ (l : List plain.Setting). f x ∷ l) (sym (none_first f xs))
one_more_first f (suc i) (x ∷ xs) = ap (λ (l : List plain.Setting). f x ∷ l) (one_more_first f i xs)

-- what becomes of the i-th value
pub changed : (f : plain.Setting → plain.Setting) (i : ℕ) (e : String Global × Setting) (new : Setting)
    (es : List (String Global × Setting))
    → Some e ≡ slice_get es i → Becomes f e.1 new → settings_in (set_value_at es i new) ≡ change_at f i (settings_in es)
changed f i e new [] g h = refl
changed f zero e new (x ∷ es) g h =
    let same : e ≡ x = cc in
    ap (λ (s : plain.Setting). s ∷ settings_in es)
    (ap (λ (y : String Global × Setting). setting_in (string_bytes y.0) new) (sym same) ∙ h (string_bytes e.0)
    ∙ ap (λ (y : String Global × Setting). f (entry_in y)) same)
changed f (suc i) e new (x ∷ es) g h = ap (λ (l : List plain.Setting). entry_in x ∷ l) (changed f i e new es g h)

-- where f leaves it, nothing does
pub not_changed : (f : plain.Setting → plain.Setting) (i : ℕ) (e : String Global × Setting) (es : List (String Global × Setting))
    → Some e ≡ slice_get es i → entry_in e ≡ f (entry_in e) → settings_in es ≡ change_at f i (settings_in es)
not_changed f i e [] g h = refl
not_changed f zero e (x ∷ es) g h =
    let same : e ≡ x = cc in
    ap (λ (s : plain.Setting). s ∷ settings_in es) (ap entry_in (sym same) ∙ h ∙ ap (λ (y : String Global × Setting). f (entry_in y)) same)
not_changed f (suc i) e (x ∷ es) g h = ap (λ (l : List plain.Setting). entry_in x ∷ l) (not_changed f i e es g h)

pub none_changed : (f : plain.Setting → plain.Setting) (i : ℕ) (es : List (String Global × Setting)) → None ≡ slice_get es i
    → settings_in es ≡ change_at f i (settings_in es)
none_changed f i [] g = refl
none_changed f zero (e ∷ es) g = absurd cc
none_changed f (suc i) (e ∷ es) g = ap (λ (l : List plain.Setting). entry_in e ∷ l) (none_changed f i es g)

-- a feature that is `auto` takes the state
pub takes_state : (state : FeatureState) (s : Setting) → true ≡ is_auto (value_in s.value)
    → Becomes (decided_setting state) s (record { value = kinds.Feature state; given = s.given })
takes_state state s auto name = ap (λ (v : Value). setting_of name v s.given) (is_decided state (value_in s.value) (sym auto))
  where
    setting_of : List ℕ → Value → Bool → plain.Setting
    setting_of n v g = record { name = n; value = v; given = g }

-- and no other does
pub keeps_state : (state : FeatureState) (e : String Global × Setting) → is_auto (value_in e.1.value) ≡ false
    → entry_in e ≡ decided_setting state (entry_in e)
keeps_state state e auto = ap (λ (v : Value). setting_of v) (sym (stays_decided state (value_in e.1.value) auto))
  where
    setting_of : Value → plain.Setting
    setting_of v = record { name = string_bytes e.0; value = v; given = e.1.given }
