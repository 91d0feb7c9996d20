-- Defines the methods of configuration data: the type `cfg_data` of the page "Reference manual".
use Rattle.std.specs.Prelude.{ℕ, pos, Bool, false, List, [], Option, Some, None, is_some, ok_or, option_and_then}
use Rattle.std.specs.Prelude.{if◌then◌else◌}
use Rattle.arguments.specs.Arguments.{ArgumentsData}
use Rattle.arguments.specs.Given.{argument, flag_at, text_at}
use Rattle.values.specs.Data.{Data, boolean}
use Rattle.arguments.specs.declared.rule.Rule.TheVariants as rules
use Rattle.support.specs.declared.faults.refusal.Refusal.TheVariants as refusals
use Rattle.template.specs.Config.{Content, Number, names, value_of}
use Rattle.template.specs.Line.{is_placeholder_name}
use Rattle.world.specs.Configuring.{configuration_at, merge_configured, set_configured, set_quoted}
use Rattle.world.specs.Deed.{Deed, give, refuse, read, ◌>>=◌, answer_or_refusal, fitting_value}
use Rattle.world.specs.Fit.{fit}
use Rattle.world.specs.Ruled.{obeyed_rule}
use Rattle.configuration_calls.specs.Contents.{content_in, found_or}
use Rattle.configuration_calls.specs.declared.contents.Quotes.{Quotes}
use Rattle.configuration_calls.specs.declared.contents.Quotes.TheVariants as quotes
use Rattle.operations.specs.operators.TextLists.{text_list}
use Rattle.configuration_calls.specs.Given.{entries_of, number_in}
use Rattle.configuration_calls.specs.Rows.{row_of}
use Rattle.values.specs.declared.language_names.object_methods.ConfigurationMethod.{ConfigurationMethod}
use Rattle.values.specs.declared.language_names.object_methods.ConfigurationMethod.TheVariants as methods
use Rattle.values.specs.language_names.ObjectMethods.{configuration_method_named}

-- Holds if configuration data has a method with this name.
abbrev pub has_method : List ℕ → Bool
has_method name = is_some (configuration_method_named name)

-- Returns the first argument of a call, and refuses with E9 one that is no name of configuration data.
unfoldable pub name_given : ArgumentsData → Deed (List ℕ)
name_given a = do
  _ ← obeyed_rule (is_placeholder_name (text_at 0 a)) rules.IsValueName (text_at 0 a)
  give (text_at 0 a)

-- Defines `get(name, fallback)`, which refuses with E10 if the name has no value and there is no fallback. `get_unquoted` returns the same,
-- but removes the quotes at the ends of a text.
unfoldable pub get : ℕ → Quotes → ArgumentsData → Deed (Option Data)
get number q a = do
  name ← name_given a
  facts ← read
  d ← answer_or_refusal (found_or q (value_of (entries_of facts number) name) (argument 1 a))
  give (Some d)

-- Defines `has(name)`: whether the name has a value.
unfoldable pub has : ℕ → ArgumentsData → Deed (Option Data)
has number a = do
  name ← name_given a
  facts ← read
  give (Some (boolean (is_some (value_of (entries_of facts number) name))))

-- Defines `keys()`: the names, sorted by bytes.
unfoldable pub keys : ℕ → Deed (Option Data)
keys number = do
  facts ← read
  d ← answer_or_refusal (text_list (names (entries_of facts number)))
  give (Some d)

-- Returns the number of the data given to a call.
unfoldable pub other_given : ArgumentsData → Deed ℕ
other_given a = fitting_value (ok_or (option_and_then number_in (argument 0 a)) refusals.Arguments)

-- Defines `merge_from(other)`: sets each name of the other data to its value there.
unfoldable pub merge_from : ℕ → ArgumentsData → Deed (Option Data)
merge_from number a = do
  other ← other_given a
  facts ← read
  _ ← merge_configured number (configuration_at other facts.configurations)
  give None

-- Returns the value that a call sets: a text, an integer or a boolean.
unfoldable pub content_given : ArgumentsData → Deed Content
content_given a = fitting_value (ok_or (option_and_then content_in (argument 1 a)) refusals.Arguments)

-- Sets a name to a text, an integer or a boolean (`set`).
unfoldable pub set : ℕ → ArgumentsData → Deed (Option Data)
set number a = do
  name ← name_given a
  content ← content_given a
  _ ← set_configured number name content
  give None

-- Returns 1 for true, and 0 for false.
abbrev pub one_or_zero : Bool → Content
one_or_zero is_so = Number (pos (if is_so then 1 else 0))

-- Defines `set10(name, condition)`: sets 1 if the condition is true, and 0 otherwise.
unfoldable pub set10 : ℕ → ArgumentsData → Deed (Option Data)
set10 number a = do
  name ← name_given a
  _ ← set_configured number name (one_or_zero (flag_at 1 false a))
  give None

-- Sets a name to a text in double quotes (`set_quoted`). Each double quote in the text is escaped.
unfoldable pub set_text_quoted : ℕ → ArgumentsData → Deed (Option Data)
set_text_quoted number a = do
  name ← name_given a
  _ ← set_quoted number name (text_at 1 a)
  give None

-- Runs a method with arguments that its row has accepted. A change of frozen data is refused with E20.
abbrev pub does : ConfigurationMethod → ℕ → ArgumentsData → Deed (Option Data)
does methods.Get number a = get number quotes.Kept a
does methods.GetUnquoted number a = get number quotes.Cut a
does methods.Has number a = has number a
does methods.Keys number a = keys number
does methods.MergeFrom number a = merge_from number a
does methods.Set number a = set number a
does methods.Set10 number a = set10 number a
does methods.SetQuoted number a = set_text_quoted number a

-- Checks the arguments of a method by its row, and then runs it.
unfoldable pub fitting_does : ConfigurationMethod → ℕ → ArgumentsData → Deed (Option Data)
fitting_does method number a = do
  _ ← fit (row_of method) a
  does method number a

-- Runs a method, and refuses an unknown one with E8.
abbrev pub does_if : Option ConfigurationMethod → ℕ → ArgumentsData → Deed (Option Data)
does_if None number a = refuse refusals.UnknownFunction []
does_if (Some method) number a = fitting_does method number a

-- Checks the arguments of a method of the data with a number by its row, and then runs it. It returns a value or nothing.
unfoldable pub configuration_method : ℕ → List ℕ → ArgumentsData → Deed (Option Data)
configuration_method number name a = does_if (configuration_method_named name) number a
