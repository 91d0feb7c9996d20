-- Defines options, each with a value.
use Rattle.std.specs.Prelude.{ℕ, zero, suc, Bool, false, List, [], ◌∷◌, map, Option, Some, None, if◌then◌else◌, bytes_eq}
use Rattle.std.specs.Option.{option_map}
use Rattle.option_values.specs.BuiltIns.{BuiltIn, built_ins}
use Rattle.option_values.specs.Values.{Value}

-- An option with its value, and whether a place gave it: `default_options`, the machine file or the command line.
pub record Setting : Type 0 where
  pub name : List ℕ
  pub value : Value
  pub given : Bool

-- Gives an option a value. A known option keeps its place, and a new one is last.
abbrev pub settings_with : Setting → List Setting → List Setting
settings_with s [] = s ∷ []
settings_with s (t ∷ ts) = if bytes_eq s.name t.name then record t { value = s.value; given = s.given } ∷ ts else t ∷ settings_with s ts

-- Returns the option of this name.
abbrev pub setting_named : List Setting → List ℕ → Option Setting
setting_named [] name = None
setting_named (s ∷ ss) name = if bytes_eq name s.name then Some s else setting_named ss name

-- Returns the value of the option of this name.
abbrev pub value_named : List Setting → List ℕ → Option Value
value_named ss name = option_map (λ s. s.value) (setting_named ss name)

-- Returns an option as it is shown: its name and its value.
abbrev pub named_value : Setting → List ℕ × Value
named_value s = (s.name, s.value)

-- Gives the option this value, unless a place gave it one.
abbrev pub or_given : Value → Setting → Setting
or_given v s = if s.given then s else record s { value = v }

-- Gives the option of this name this value, unless a place gave it one.
abbrev pub fill : List ℕ → Value → List Setting → List Setting
fill name v [] = []
fill name v (s ∷ ss) = if bytes_eq name s.name then or_given v s ∷ ss else s ∷ fill name v ss

-- Replaces option number i by the result of f.
abbrev pub change_at : (Setting → Setting) → ℕ → List Setting → List Setting
change_at f i [] = []
change_at f zero (s ∷ ss) = f s ∷ ss
change_at f (suc i) (s ∷ ss) = s ∷ change_at f i ss

-- ---- the options of every project

-- Returns an option that every project has, with its default value.
abbrev pub first_setting : BuiltIn → Setting
first_setting b = record { name = b.name; value = b.value; given = false }

-- Returns all of these options.
unfoldable pub built_in_settings : List Setting
built_in_settings = map first_setting built_ins

-- Adds one more row of their table.
abbrev pub add_setting : List Setting → BuiltIn → List Setting
add_setting ss b = settings_with (first_setting b) ss
