-- Defines which values of the language configuration data can contain.
use Prim.Native.Char.{code}
use Rattle.std.specs.Prelude.{ℕ, ◌==◌, List, [], ◌∷◌, Option, Some, None, option_map, unwrap_or, Result, Ok, Err, if◌then◌else◌}
use Rattle.arguments.specs.Said.{Said, ◌>>=◌, found_value, kept_rule}
use Rattle.arguments.specs.declared.rule.Rule.TheVariants as rules
use Rattle.values.specs.Data.{Data, boolean, integer, text, Entries as DictionaryEntries, Items, no_items, item}
use Rattle.values.specs.Data.{entry_values, keys_in}
use Rattle.values.specs.Limits.{within}
use Rattle.values.specs.declared.refusal.OperationRefusal.{OperationRefusal}
use Rattle.values.specs.declared.refusal.OperationRefusal.TheVariants as refusal
use Rattle.template.specs.Config.{Bytes, Configuration, Content, Entries, Flag, Number, unfrozen_configuration, with_value}
use Rattle.template.specs.Line.{is_placeholder_name}
use Rattle.configuration_calls.specs.declared.contents.Quotes.{Quotes}
use Rattle.configuration_calls.specs.declared.contents.Quotes.TheVariants as quotes

-- Returns the content for a value: configuration data contains texts, integers and booleans.
abbrev pub content_in : Data → Option Content
content_in (boolean b) = Some (Flag b)
content_in (integer z) = Some (Number z)
content_in (text t) = Some (Bytes t)
content_in _ = None

-- ---- a dictionary as configuration data

-- Returns the content of a name. A bad name breaks a rule, and so does a value of another type.
abbrev pub content_at : List ℕ → Data → Said Content
content_at name d = do
  _ ← kept_rule (is_placeholder_name name) rules.IsValueName name
  found_value (content_in d) rules.IsSetting name

-- Returns entries followed by these names with their values.
abbrev pub all_set : Entries → List (List ℕ) → Items → Said Entries
all_set entries [] ds = Ok entries
all_set entries (k ∷ ks) no_items = Ok entries
all_set entries (k ∷ ks) (item d ds) = do
  content ← content_at k d
  all_set (with_value entries k content) ks ds

-- Returns a dictionary as configuration data. Its keys must be names, and its values texts, integers or booleans.
abbrev pub entries_in : DictionaryEntries → Said Entries
entries_in es = all_set [] (keys_in es) (entry_values es)

-- Returns configuration data with these entries.
abbrev pub data_with : Said Entries → Said Configuration
data_with said = do
  entries ← said
  Ok (unfrozen_configuration entries)

-- ---- the value of a name

-- Returns the text before a quote that is its last byte.
abbrev pub before_quote : List ℕ → Option (List ℕ)
before_quote [] = None
before_quote (b ∷ []) = if b == code "\"" then Some [] else None
before_quote (b ∷ c ∷ t) = option_map (λ u. b ∷ u) (before_quote (c ∷ t))

-- Returns a text without its first and last byte if both are quotes, and unchanged otherwise.
abbrev pub unquoted_text : List ℕ → List ℕ
unquoted_text [] = []
unquoted_text (b ∷ t) = if b == code "\"" then unwrap_or (before_quote t) (b ∷ t) else b ∷ t

-- Returns a text with its quotes kept or removed.
abbrev pub given_text : Quotes → List ℕ → List ℕ
given_text quotes.Kept t = t
given_text quotes.Cut t = unquoted_text t

-- Returns the value of a content.
abbrev pub value_of_content : Quotes → Content → Data
value_of_content q (Flag b) = boolean b
value_of_content q (Number z) = integer z
value_of_content q (Bytes t) = text (given_text q t)

-- Returns the fallback, and refuses with E10 if there is none.
abbrev pub fallback_given : Quotes → Option Data → Result Data OperationRefusal
fallback_given q None = Err refusal.Absent
fallback_given quotes.Kept (Some d) = Ok d
fallback_given quotes.Cut (Some (text t)) = within (text (unquoted_text t))
fallback_given quotes.Cut (Some d) = Ok d

-- Returns the value of a name, and otherwise the fallback.
abbrev pub found_or : Quotes → Option Content → Option Data → Result Data OperationRefusal
found_or q (Some content) fallback = within (value_of_content q content)
found_or q None fallback = fallback_given q fallback
