-- Defines `get_option`.
use Rattle.std.specs.Prelude.{ℕ, List, Option, Some, None, Result, Ok}
use Rattle.values.specs.Data.{Data, boolean, integer, text, object}
use Rattle.values.specs.Limits.{within}
use Rattle.operations.specs.operators.TextLists.{text_list}
use Rattle.values.specs.declared.object.Feature.{Feature}
use Rattle.values.specs.declared.object.Feature.TheVariants as features
use Rattle.values.specs.declared.object.Object.TheVariants as objects
use Rattle.values.specs.declared.refusal.OperationRefusal.{OperationRefusal as OperationRefusal}
use Rattle.support.specs.declared.faults.refusal.Refusal.TheVariants as refusals
use Rattle.arguments.specs.Arguments.{ArgumentsData}
use Rattle.arguments.specs.Given.{text_at}
use Rattle.arguments.specs.Rules.{breach_message}
use Rattle.arguments.specs.declared.rule.Rule.TheVariants as rules
use Rattle.option_values.specs.Values.{Value, Text, Boolean, Combo, Integer, Array, Feature as FeatureValue}
use Rattle.option_values.specs.declared.kind.FeatureState.{FeatureState}
use Rattle.option_values.specs.declared.kind.FeatureState.TheVariants as states
use Rattle.option_values.specs.Settings.{value_named}
use Rattle.world.specs.Deed.{Deed, give, refuse, read, ◌>>=◌, answer_or_refusal}

-- Returns the feature for a state.
abbrev pub feature_of : FeatureState → Feature
feature_of states.Enabled = features.Enabled
feature_of states.Disabled = features.Disabled
feature_of states.Auto = features.Auto

-- Returns the value of an option as a value of the language, or E22 if it is too large. The value of a feature option is an object.
unfoldable pub as_data : Value → Result Data OperationRefusal
as_data (Text t) = within (text t)
as_data (Boolean b) = Ok (boolean b)
as_data (Combo choice) = within (text choice)
as_data (Integer n) = Ok (integer n)
as_data (Array items) = text_list items
as_data (FeatureValue state) = Ok (object (objects.Feature (feature_of state)))

-- Returns the value of the option with a name, and refuses an unknown name with E15.
unfoldable pub given_option : List ℕ → Option Value → Deed (Option Data)
given_option name None = refuse refusals.OptionValue (breach_message rules.IsOption name)
given_option name (Some value) = do
  d ← answer_or_refusal (as_data value)
  give (Some d)

-- Defines `get_option(name)`, which refuses an unknown name with E15.
unfoldable pub get_option : ArgumentsData → Deed (Option Data)
get_option a = do
  facts ← read
  given_option (text_at 0 a) (value_named facts.options (text_at 0 a))
