-- Defines how options are listed.
use Rattle.std.specs.Prelude.{ℕ, List, map, codes}
use Rattle.option_values.specs.Values as value
use Rattle.option_values.specs.declared.kind.FeatureState.{FeatureState}
use Rattle.option_values.specs.declared.kind.FeatureState.TheVariants as feature
use Rattle.option_values.specs.Settings.{named_value, Setting}
use Rattle.build.specs.Data.{OptionData, OptionEntryData, text, boolean, integer, texts}
use Rattle.build.specs.declared.facts.OptionType.{OptionType}
use Rattle.build.specs.declared.facts.OptionType.TheVariants as kind

-- Returns the type of an option's value.
abbrev pub type_of : value.Value → OptionType
type_of (value.Text t) = kind.String
type_of (value.Boolean b) = kind.Boolean
type_of (value.Combo choice) = kind.Combo
type_of (value.Integer n) = kind.Integer
type_of (value.Array items) = kind.Array
type_of (value.Feature state) = kind.Feature

-- Returns the name of a feature's state.
abbrev pub word_of : FeatureState → List ℕ
word_of feature.Enabled = codes "enabled"
word_of feature.Disabled = codes "disabled"
word_of feature.Auto = codes "auto"

-- Returns how an option's value is listed. Choices and the states of features are listed as texts.
abbrev pub listed_value : value.Value → OptionData
listed_value (value.Text t) = text t
listed_value (value.Boolean b) = boolean b
listed_value (value.Combo choice) = text choice
listed_value (value.Integer n) = integer n
listed_value (value.Array items) = texts items
listed_value (value.Feature state) = text (word_of state)

-- Returns an option as it is listed.
abbrev pub entry_of : List ℕ × value.Value → OptionEntryData
entry_of named = record { name = named.0; kind = type_of named.1; value = listed_value named.1 }

-- Returns all options, in order.
abbrev pub entries_in : List Setting → List OptionEntryData
entries_in settings = map entry_of (map named_value settings)
