-- Defines the methods of lists: the type `list` of the page "Reference manual".
use Rattle.std.specs.Prelude.{ℕ, pos, Bool, false, ◌||◌, List, Option, Some, None, Result, Ok, Err, codes}
use Rattle.values.specs.declared.refusal.OperationRefusal.{OperationRefusal}
use Rattle.values.specs.declared.refusal.OperationRefusal.TheVariants as refusal
use Rattle.values.specs.Data.{Data, boolean, integer, text, list, dictionary, object, Items, no_items, item, count}
use Rattle.values.specs.Same.{same}
use Rattle.operations.specs.operators.Index.{indexed_item}
use Rattle.values.specs.declared.language_names.value_methods.ListMethod.{ListMethod}
use Rattle.values.specs.declared.language_names.value_methods.ListMethod.TheVariants.{Contains, Get, Length}
use Rattle.operations.specs.methods.Steps.{◌>>=◌, result_of_method}
use Rattle.operations.specs.methods.Arguments.{no_arguments, one_argument, key_and_fallback, integer_argument}
use Rattle.values.specs.language_names.ValueMethods.{list_method_named}

-- Holds if a value is an item, or is in an item that is a list, at any depth.
abbrev mutual
  pub stands_in : Data → Items → Bool
  stands_in d no_items = false
  stands_in d (item e es) = (same d e || stands_inside d e) || stands_in d es

  -- Holds if the second value is a list that contains the first value, at any depth of lists.
  pub stands_inside : Data → Data → Bool
  stands_inside d (list es) = stands_in d es
  stands_inside d (boolean b) = false
  stands_inside d (integer z) = false
  stands_inside d (text t) = false
  stands_inside d (dictionary es) = false
  stands_inside d (object o) = false

-- Returns whether a value is in a list, at any depth of lists.
abbrev pub contains : Items → List Data → Result Data OperationRefusal
contains ds arguments = do
  d ← one_argument arguments
  Ok (boolean (stands_in d ds))

-- Returns the value that was found, otherwise the fallback, and the refusal if there is neither.
abbrev pub found_or : Option Data → Option Data → Result Data OperationRefusal
found_or (Some d) fallback = Ok d
found_or None (Some fallback) = Ok fallback
found_or None None = Err refusal.Absent

-- Returns the item at an index, which means the same as in brackets, and otherwise the fallback.
abbrev pub get : Items → List Data → Result Data OperationRefusal
get ds arguments = do
  asked ← key_and_fallback arguments
  i ← integer_argument asked.0
  found_or (indexed_item ds i) asked.1

-- Returns the number of items.
abbrev pub len : Items → List Data → Result Data OperationRefusal
len ds arguments = do
  _ ← no_arguments arguments
  Ok (integer (pos (count ds)))

-- Describes in words what a method of a list takes.
abbrev pub argument_words : ListMethod → List ℕ
argument_words Contains = codes "one value"
argument_words Get = codes "an integer, or an integer and a value in its place"
argument_words Length = codes "no arguments"

-- Returns the result of a method of a list.
abbrev pub call : ListMethod → Items → List Data → Result Data OperationRefusal
call Contains ds arguments = contains ds arguments
call Get ds arguments = get ds arguments
call Length ds arguments = len ds arguments

-- Returns the result of the method of a list with this name.
abbrev pub answer : Items → List ℕ → List Data → Result Data OperationRefusal
answer ds name arguments = result_of_method (list_method_named name) (λ m. call m ds arguments)
