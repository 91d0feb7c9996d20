-- Defines the values of options.
use Rattle.std.specs.Prelude.{ℕ, ℤ, Bool, List}
use Rattle.option_values.specs.declared.kind.FeatureState.{FeatureState}

-- Texts are bytes. A combo has one of its choices.
pub data Value : Type 0 where
  Text : (text : List ℕ) → Value
  Boolean : (boolean : Bool) → Value
  Combo : (choice : List ℕ) → Value
  Integer : (number : ℤ) → Value
  Array : (items : List (List ℕ)) → Value
  Feature : (state : FeatureState) → Value
