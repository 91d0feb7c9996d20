-- Defines what some options decide about others.
use Rattle.std.specs.Prelude.{ℕ, Bool, true, false, List, [], ◌∷◌, map, Option, Some, None, codes, if◌then◌else◌, bytes_eq}
use Rattle.std.specs.Option.{option_and_then}
use Rattle.option_values.specs.declared.kind.FeatureState.{FeatureState}
use Rattle.option_values.specs.declared.kind.FeatureState.TheVariants.{Auto}
use Rattle.option_values.specs.Values.{Value, Text, Boolean, Combo, Feature}
use Rattle.option_values.specs.Settings.{Setting, setting_named, fill}

-- A build type (`buildtype`) with the values that it gives the options `debug` and `optimization`.
pub record BuildType : Type 0 where
  pub name : List ℕ
  pub debug : Bool
  pub optimization : List ℕ

-- Returns the values of `debug` and `optimization` for each build type, as the Meson manual's page "Built-in options" lists them.
unfoldable pub build_types : List BuildType
build_types =
    record { name = codes "plain"; debug = false; optimization = codes "plain" }
    ∷ record { name = codes "debug"; debug = true; optimization = codes "0" }
    ∷ record { name = codes "debugoptimized"; debug = true; optimization = codes "2" }
    ∷ record { name = codes "release"; debug = false; optimization = codes "3" }
    ∷ record { name = codes "minsize"; debug = true; optimization = codes "s" }
    ∷ []

-- Returns the first build type with this name, and none if there is no such type.
abbrev pub type_among : List BuildType → List ℕ → Option BuildType
type_among [] name = None
type_among (t ∷ ts) name = if bytes_eq name t.name then Some t else type_among ts name

-- Returns the text of a string or of a combo's choice.
abbrev pub text_in : Value → Option (List ℕ)
text_in (Text text) = Some text
text_in (Combo choice) = Some choice
text_in _ = None

-- Returns the state if the value is that of a feature option, and none otherwise.
abbrev pub state_in : Value → Option FeatureState
state_in (Feature state) = Some state
state_in _ = None

-- Returns the text of the option with this name.
abbrev pub text_at : List ℕ → List Setting → Option (List ℕ)
text_at name ss = option_and_then (λ s. text_in s.value) (setting_named ss name)

-- Returns the state of the feature option with this name.
abbrev pub state_at : List ℕ → List Setting → Option FeatureState
state_at name ss = option_and_then (λ s. state_in s.value) (setting_named ss name)

-- ---- `buildtype` decides `debug` and `optimization`, unless a place sets them

-- Fills in `debug` and `optimization`, if there is a build type.
abbrev pub with_type : Option BuildType → List Setting → List Setting
with_type None ss = ss
with_type (Some t) ss = fill (codes "optimization") (Combo t.optimization) (fill (codes "debug") (Boolean t.debug) ss)

-- Fills in what `buildtype` decides.
unfoldable pub by_buildtype : List Setting → List Setting
by_buildtype ss = with_type (option_and_then (type_among build_types) (text_at (codes "buildtype") ss)) ss

-- ---- below the prefix `/usr`, `sysconfdir` is `/etc`, unless a place sets it

-- Returns whether there is a prefix and it is `/usr`.
abbrev pub is_usr : Option (List ℕ) → Bool
is_usr None = false
is_usr (Some prefix) = bytes_eq prefix (codes "/usr")

-- Fills in what `prefix` decides.
unfoldable pub by_prefix : List Setting → List Setting
by_prefix ss = if is_usr (text_at (codes "prefix") ss) then fill (codes "sysconfdir") (Text (codes "/etc")) ss else ss

-- ---- `auto_features` decides every feature in state `auto`

-- Returns the value of a feature, which is this state if it was `auto`.
abbrev pub decided_value : FeatureState → Value → Value
decided_value state (Feature Auto) = Feature state
decided_value state v = v

-- Returns whether a value leaves its option to `auto_features`.
abbrev pub is_auto : Value → Bool
is_auto (Feature Auto) = true
is_auto v = false

-- Sets a feature option in state `auto` to this state, and keeps any other option.
abbrev pub decided_setting : FeatureState → Setting → Setting
decided_setting state s = record s { value = decided_value state s.value }

-- Sets the features in state `auto` to this state, if there is one.
abbrev pub with_state : Option FeatureState → List Setting → List Setting
with_state None ss = ss
with_state (Some state) ss = map (decided_setting state) ss

-- Fills in what `auto_features` decides.
unfoldable pub by_auto_features : List Setting → List Setting
by_auto_features ss = with_state (state_at (codes "auto_features") ss) ss

-- Returns the options after everything is filled in.
abbrev pub filled_in : List Setting → List Setting
filled_in ss = by_auto_features (by_prefix (by_buildtype ss))
