-- Defines the default values of declared options.
use Rattle.std.specs.Prelude.{ℕ, ℤ, Bool, true, List, [], ◌∷◌, Option, Some, None, if◌then◌else◌}
use Rattle.std.specs.Option.{unwrap_or}
use Rattle.option_values.specs.declared.kind.FeatureState.TheVariants as feature
use Rattle.option_values.specs.Integers.{is_within}
use Rattle.option_values.specs.Kinds as kind
use Rattle.option_values.specs.Values as value
use Rattle.option_values.specs.Texts.{array_of, value_of}
use Rattle.options.specs.option_file.Declarations.{Declaration}
use Rattle.options.specs.option_file.Given as given

-- Returns a combo's first choice.
abbrev pub first_of : List (List ℕ) → Option value.Value
first_of [] = None
first_of (choice ∷ choices) = Some (value.Combo choice)

-- Returns the value of an option that is declared without one. An integer has none.
abbrev pub value_of_kind : kind.Kind → Option value.Value
value_of_kind kind.Text = Some (value.Text [])
value_of_kind kind.Boolean = Some (value.Boolean true)
value_of_kind (kind.Combo choices) = first_of choices
value_of_kind (kind.Integer least greatest) = None
value_of_kind (kind.Array choices) = Some (value.Array (unwrap_or choices []))
value_of_kind kind.Words = Some (value.Array [])
value_of_kind kind.Feature = Some (value.Feature feature.Auto)

-- Returns the boolean as a value, if the option takes one.
abbrev pub boolean_of : kind.Kind → Bool → Option value.Value
boolean_of kind.Boolean boolean = Some (value.Boolean boolean)
boolean_of _ boolean = None

-- Returns the integer as a value, if the option takes it.
abbrev pub integer_of : kind.Kind → ℤ → Option value.Value
integer_of (kind.Integer least greatest) number = if is_within least greatest number then Some (value.Integer number) else None
integer_of _ number = None

-- Returns the items as a value, if the option takes them.
abbrev pub items_of : kind.Kind → List (List ℕ) → Option value.Value
items_of (kind.Array choices) items = array_of choices items
items_of _ items = None

-- Returns the value that a declaration gives an option of this kind. A text is read as at other places. Anything else counts only if the
-- option takes exactly that.
abbrev pub declared_value : kind.Kind → given.Given → Option value.Value
declared_value k (given.Text text) = value_of k text
declared_value k (given.Boolean boolean) = boolean_of k boolean
declared_value k (given.Integer number) = integer_of k number
declared_value k (given.Texts items) = items_of k items
declared_value k given.Other = None

-- Returns the value that a declaration gives, or else the default of the kind.
abbrev pub value_or_kind : kind.Kind → Option given.Given → Option value.Value
value_or_kind k (Some g) = declared_value k g
value_or_kind k None = value_of_kind k

-- Returns the default value of a declaration.
unfoldable pub default_of : Declaration → Option value.Value
default_of d = value_or_kind d.kind d.value
