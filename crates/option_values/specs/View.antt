-- Defines the plain values of the code's types.
pub use Rattle.machine_file.specs.View.{strings_in}
use Rattle.std.specs.Prelude.{◌≡◌, ℕ, List, [], map, string_bytes, String, Option}
use Rattle.std.specs.Option.{option_map}
use Rattle.std.specs.declared.alloc.Global.{Global}
use Rattle.option_values.specs.declared.kind.OptionKind.{OptionKind}
use Rattle.option_values.specs.declared.kind.OptionKind.TheVariants as asked
use Rattle.option_values.specs.declared.kind.OptionValue.{OptionValue}
use Rattle.option_values.specs.declared.kind.OptionValue.TheVariants as given
use Rattle.option_values.specs.declared.kind.FeatureState.TheVariants as feature
use Rattle.option_values.specs.declared.choices.Choices.{Choices}
use Rattle.option_values.specs.declared.built_in.ChoiceList.{ChoiceList}
use Rattle.option_values.specs.declared.built_in.ChoiceList.TheVariants as choice
use Rattle.option_values.specs.declared.built_in.Form.{Form}
use Rattle.option_values.specs.declared.built_in.Form.TheVariants as form
use Rattle.option_values.specs.declared.built_in.BuiltIn.{BuiltIn}
use Rattle.option_values.specs.BuiltIns as built
use Rattle.option_values.specs.Kinds as kind
use Rattle.option_values.specs.Values as value

-- Returns the choices, in their order.
abbrev pub texts_of : Choices → List (List ℕ)
texts_of choices = strings_in choices.texts.items

-- Returns the choices of an array as plain texts, in their order. There are none if any text may be an item.
abbrev pub choices_in : Option Choices → Option (List (List ℕ))
choices_in choices = option_map texts_of choices

-- Returns the kind of an option of the code as plain data, with each choice as its bytes.
abbrev pub kind_in : OptionKind → kind.Kind
kind_in asked.Text = kind.Text
kind_in asked.Boolean = kind.Boolean
kind_in (asked.Combo choices) = kind.Combo (texts_of choices)
kind_in (asked.Integer min max) = kind.Integer min max
kind_in (asked.Array choices) = kind.Array (choices_in choices)
kind_in asked.Words = kind.Words
kind_in asked.Feature = kind.Feature

-- Returns the value of an option of the code as plain data, with each string as its bytes.
abbrev pub value_in : OptionValue → value.Value
value_in (given.Text text) = value.Text (string_bytes text)
value_in (given.Boolean boolean) = value.Boolean boolean
value_in (given.Combo choice) = value.Combo (string_bytes choice)
value_in (given.Integer number) = value.Integer number
value_in (given.Array items) = value.Array (strings_in items.items)
value_in (given.Feature state) = value.Feature state

-- ---- the options that every project has

-- Returns a name and its kind in the code's table as one plain record.
abbrev pub named_kind_in : String Global × OptionKind → built.NamedKind
named_kind_in e = record { name = string_bytes e.0; kind = kind_in e.1 }

-- Returns the names and kinds of the code's table as plain data, in the same order.
abbrev pub kinds_in : List (String Global × OptionKind) → List built.NamedKind
kinds_in entries = map named_kind_in entries

-- Holds if these are the options that every project has, with what each takes.
abbrev pub AreBuiltIns : List (String Global × OptionKind) → Type 0
AreBuiltIns entries = kinds_in entries ≡ built.built_in_kinds

-- Returns the choices of a combo that every project has, given their name in the code.
abbrev pub list_in : ChoiceList → List (List ℕ)
list_in choice.BuildTypes = built.build_types
list_in choice.Levels = built.levels
list_in choice.Warnings = built.warnings
list_in choice.Standards = built.standards
list_in choice.Libraries = built.libraries

-- Returns the kind of an option that every project has, given its row in the code's table.
abbrev pub form_kind : Form → kind.Kind
form_kind (form.Text text) = kind.Text
form_kind (form.Boolean boolean) = kind.Boolean
form_kind (form.Combo choices text) = kind.Combo (list_in choices)
form_kind form.Words = kind.Words
form_kind form.Feature = kind.Feature

-- Returns the default value of an option that every project has, given its row in the code's table.
abbrev pub form_value : Form → value.Value
form_value (form.Text text) = value.Text text.now
form_value (form.Boolean boolean) = value.Boolean boolean
form_value (form.Combo choices text) = value.Combo text.now
form_value form.Words = value.Array []
form_value form.Feature = value.Feature feature.Auto

-- Returns a row of the table of options that every project has.
abbrev pub row_in : BuiltIn → built.BuiltIn
row_in b = record { name = b.name.now; kind = form_kind b.form; value = form_value b.form }
