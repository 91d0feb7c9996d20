-- Defines the text that a value is printed as, by `message` and `str.format` of the page "Reference manual".
use Rattle.std.specs.Prelude.{ℕ, Bool, true, false, ◌&&◌, List, [], ◌∷◌, ◌++◌, codes, Result, Err, if◌then◌else◌}
use Rattle.std.specs.List.{flat_map}
use Rattle.std.specs.Fmt.{signed_decimal}
use Rattle.values.specs.declared.refusal.OperationRefusal.{OperationRefusal}
use Rattle.values.specs.declared.refusal.OperationRefusal.TheVariants as refusal
use Rattle.values.specs.Limits.{within_bytes}
use Rattle.values.specs.Data.{Data, boolean, integer, text, list, dictionary, object, Items, no_items, item, Entries, no_entries, entry}

-- Holds if a value neither is nor contains an object.
abbrev mutual
  pub is_printable : Data → Bool
  is_printable (list ds) = are_printable ds
  is_printable (dictionary es) = are_entries_printable es
  is_printable (object o) = false
  is_printable _ = true

  -- Holds if no item is or contains an object.
  pub are_printable : Items → Bool
  are_printable no_items = true
  are_printable (item d ds) = is_printable d && are_printable ds

  -- Holds if no value of the entries is or contains an object.
  pub are_entries_printable : Entries → Bool
  are_entries_printable no_entries = true
  are_entries_printable (entry k d es) = is_printable d && are_entries_printable es

-- Holds if a value is a boolean, an integer or a text.
abbrev pub is_plain : Data → Bool
is_plain (boolean b) = true
is_plain (integer z) = true
is_plain (text t) = true
is_plain _ = false

-- Returns `true` or `false` as a text.
abbrev pub boolean_text : Bool → List ℕ
boolean_text is_so = if is_so then codes "true" else codes "false"

-- Returns a text in single quotes. Nothing in it is escaped.
abbrev pub quoted_text : List ℕ → List ℕ
quoted_text t = codes "'" ++ (t ++ codes "'")

-- Returns texts joined by a comma and a space.
abbrev pub comma_list : List (List ℕ) → List ℕ
comma_list [] = []
comma_list (t ∷ ts) = t ++ flat_map (λ next. codes ", " ++ next) ts

-- Returns the text of a value inside a list or a dictionary.
abbrev mutual
  pub inside : Data → List ℕ
  inside (boolean b) = boolean_text b
  inside (integer z) = signed_decimal z
  inside (text t) = quoted_text t
  inside (list ds) = codes "[" ++ (comma_list (item_texts ds) ++ codes "]")
  inside (dictionary es) = codes "{" ++ (comma_list (entry_texts es) ++ codes "}")
  inside (object o) = []

  -- Returns the text of each item, as printed inside a list.
  pub item_texts : Items → List (List ℕ)
  item_texts no_items = []
  item_texts (item d ds) = inside d ∷ item_texts ds

  -- Returns the text of each entry: the key in quotes, ` : `, and the value.
  pub entry_texts : Entries → List (List ℕ)
  entry_texts no_entries = []
  entry_texts (entry k d es) = ((quoted_text k ++ codes " : ") ++ inside d) ∷ entry_texts es

-- Returns the text of a value that is printed alone: a text is printed as it is, without quotes.
abbrev pub text_of_value : Data → List ℕ
text_of_value (text t) = t
text_of_value d = inside d

-- Returns the text that a value is printed as, or the refusal if it has none.
abbrev pub printed_value : Data → Result (List ℕ) OperationRefusal
printed_value d = if is_printable d then within_bytes (text_of_value d) else Err refusal.Arguments
