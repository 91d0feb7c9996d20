-- Defines the methods of a feature: the type `feature` of the page "Reference manual".
use Rattle.std.specs.Prelude.{ℕ, Bool, true, false, not, List, Option, Some, None, Result, Ok, Err}
use Rattle.values.specs.Data.{Data, boolean}
use Rattle.values.specs.declared.object.Feature.{Feature}
use Rattle.values.specs.declared.object.Feature.TheVariants as features
use Rattle.values.specs.declared.refusal.OperationRefusal.{OperationRefusal}
use Rattle.values.specs.declared.refusal.OperationRefusal.TheVariants as refusal
use Rattle.values.specs.declared.language_names.object_methods.FeatureMethod.{FeatureMethod}
use Rattle.values.specs.declared.language_names.object_methods.FeatureMethod.TheVariants.{Allowed, Auto, Disabled, Enabled}
use Rattle.values.specs.language_names.ObjectMethods.{feature_method_named}

-- Holds if a feature is enabled.
abbrev pub is_enabled : Feature → Bool
is_enabled features.Enabled = true
is_enabled f = false

-- Holds if a feature is disabled.
abbrev pub is_disabled : Feature → Bool
is_disabled features.Disabled = true
is_disabled f = false

-- Holds if a feature is automatic.
abbrev pub is_auto : Feature → Bool
is_auto features.Auto = true
is_auto f = false

-- Returns the result of a method of a feature. A feature is allowed if it is not disabled.
abbrev pub tells : FeatureMethod → Feature → Bool
tells Allowed f = not (is_disabled f)
tells Auto f = is_auto f
tells Disabled f = is_disabled f
tells Enabled f = is_enabled f

-- Returns the result of a method of a feature, or E8 if there is none.
abbrev pub answer_by : Option FeatureMethod → Feature → Result Data OperationRefusal
answer_by None f = Err refusal.UnknownMethod
answer_by (Some method) f = Ok (boolean (tells method f))

-- Returns the result of the method of a feature with this name.
abbrev pub answer : Feature → List ℕ → Result Data OperationRefusal
answer f name = answer_by (feature_method_named name) f
