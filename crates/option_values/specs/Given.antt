-- Defines which value a list and a value of a machine file give an option.
use Rattle.std.specs.Prelude.{ℕ, Bool, true, false, codes, List, [], ◌∷◌, ◌++◌, Option, Some, if◌then◌else◌}
use Rattle.std.specs.Fmt.{signed_decimal}
use Rattle.machine_file.specs.Values as machine
use Rattle.option_values.specs.Kinds as kind
use Rattle.option_values.specs.Values as value
use Rattle.option_values.specs.Texts.{array_of, value_of}

-- Returns texts in single quotes, in which nothing is escaped, with the separator before the first and a comma and a space before each
-- other one.
abbrev pub quoted_texts : List ℕ → List (List ℕ) → List ℕ
quoted_texts separator [] = []
quoted_texts separator (item ∷ items) = separator ++ (codes "'" ++ (item ++ (codes "'" ++ quoted_texts (codes ", ") items)))

-- Returns a list in printed form.
abbrev pub printed_list : List (List ℕ) → List ℕ
printed_list items = codes "[" ++ (quoted_texts [] items ++ codes "]")

-- Returns the value that a list of texts gives an option of this kind: its items if the option takes a list, and else its printed form.
abbrev pub value_of_items : kind.Kind → List (List ℕ) → Option value.Value
value_of_items (kind.Array choices) items = array_of choices items
value_of_items kind.Words items = Some (value.Array items)
value_of_items k items = value_of k (printed_list items)

-- Returns the text `true` or `false`, as an option of type `boolean` takes it.
abbrev pub boolean_text : Bool → List ℕ
boolean_text is_so = if is_so then codes "true" else codes "false"

-- Returns the value that a value of a machine file gives an option of this kind: its printed form, except for lists.
abbrev pub value_of_given : kind.Kind → machine.Value → Option value.Value
value_of_given k (machine.Text text) = value_of k text
value_of_given k (machine.Integer number) = value_of k (signed_decimal number)
value_of_given k (machine.Boolean boolean) = value_of k (boolean_text boolean)
value_of_given k (machine.Texts items) = value_of_items k items
