-- Defines which value a text gives an option.
use Rattle.std.specs.Prelude.{ℕ, Bool, true, false, codes, bytes_eq, List, Option, Some, None, if◌then◌else◌}
use Rattle.std.specs.Option.{option_map, option_and_then}
use Rattle.option_values.specs.declared.kind.FeatureState.{FeatureState}
use Rattle.option_values.specs.declared.kind.FeatureState.TheVariants as feature
use Rattle.option_values.specs.Kinds as kind
use Rattle.option_values.specs.Values as value
use Rattle.option_values.specs.Integers.{integer_within}
use Rattle.support.specs.Among.{is_among}
use Rattle.option_values.specs.Lists.{are_among, items_of, word_items_of}

-- Returns the boolean that `true` or `false` spells, and none for any other text.
abbrev pub boolean_of : List ℕ → Option Bool
boolean_of text =
    if bytes_eq text (codes "true") then Some true
    else (if bytes_eq text (codes "false") then Some false
    else None)

-- Returns the state of a feature that `enabled`, `disabled` or `auto` names, and none for any other text.
abbrev pub state_of : List ℕ → Option FeatureState
state_of text =
    if bytes_eq text (codes "enabled") then Some feature.Enabled
    else (if bytes_eq text (codes "disabled") then Some feature.Disabled
    else (if bytes_eq text (codes "auto") then Some feature.Auto
    else None))

-- Returns a text as the value of a combo, if it is one of the choices.
abbrev pub choice_of : List (List ℕ) → List ℕ → Option value.Value
choice_of choices text = if is_among choices text then Some (value.Combo text) else None

-- Returns a list of these items, if the choices allow them.
abbrev pub array_of : Option (List (List ℕ)) → List (List ℕ) → Option value.Value
array_of choices items = if are_among choices items then Some (value.Array items) else None

-- Returns the value that a text gives an option of this kind, if the option takes it.
abbrev pub value_of : kind.Kind → List ℕ → Option value.Value
value_of kind.Text text = Some (value.Text text)
value_of kind.Boolean text = option_map value.Boolean (boolean_of text)
value_of (kind.Combo choices) text = choice_of choices text
value_of (kind.Integer least greatest) text = option_map value.Integer (integer_within least greatest text)
value_of (kind.Array choices) text = option_and_then (array_of choices) (items_of text)
value_of kind.Words text = option_map value.Array (word_items_of text)
value_of kind.Feature text = option_map value.Feature (state_of text)
