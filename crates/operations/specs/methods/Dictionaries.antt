-- Defines the methods of dictionaries: the type `dict` of the page "Reference manual".
use Rattle.std.specs.Prelude.{ℕ, List, [], ◌∷◌, is_some, Result, Ok, codes}
use Rattle.std.specs.Ordering.{nat_cmp}
use Rattle.std.specs.Cmp.Lexicographic.{slice_cmp}
use Rattle.std.specs.BTreeSet.{insert_key}
use Rattle.values.specs.declared.refusal.OperationRefusal.{OperationRefusal}
use Rattle.values.specs.Data.{Data, boolean, list, Entries, find, keys_in}
use Rattle.values.specs.Limits.{within}
use Rattle.values.specs.declared.language_names.value_methods.DictionaryMethod.{DictionaryMethod}
use Rattle.values.specs.declared.language_names.value_methods.DictionaryMethod.TheVariants.{Get, HasKey, Keys}
use Rattle.operations.specs.methods.Steps.{◌>>=◌, result_of_method}
use Rattle.operations.specs.methods.Arguments.{no_arguments, one_argument, key_and_fallback, text_argument}
use Rattle.operations.specs.methods.Lists.{found_or}
use Rattle.operations.specs.methods.TextLists.{texts}
use Rattle.values.specs.language_names.ValueMethods.{dictionary_method_named}

-- Returns the value of a key, and otherwise the fallback.
abbrev pub get : Entries → List Data → Result Data OperationRefusal
get es arguments = do
  asked ← key_and_fallback arguments
  k ← text_argument asked.0
  found_or (find k es) asked.1

-- Returns whether a key is present.
abbrev pub has_key : Entries → List Data → Result Data OperationRefusal
has_key es arguments = do
  d ← one_argument arguments
  k ← text_argument d
  Ok (boolean (is_some (find k es)))

-- Returns sorted keys with further ones inserted in the order of bytes.
abbrev pub sorted_with : List (List ℕ) → List (List ℕ) → List (List ℕ)
sorted_with sorted [] = sorted
sorted_with sorted (k ∷ ks) = sorted_with (insert_key (slice_cmp nat_cmp) sorted k) ks

-- Returns the keys, sorted by bytes.
abbrev pub keys : Entries → List Data → Result Data OperationRefusal
keys es arguments = do
  _ ← no_arguments arguments
  within (list (texts (sorted_with [] (keys_in es))))

-- Describes in words what a method of a dictionary takes.
abbrev pub argument_words : DictionaryMethod → List ℕ
argument_words Get = codes "a text, or a text and a value in its place"
argument_words HasKey = codes "one text"
argument_words Keys = codes "no arguments"

-- Returns the result of a method of a dictionary.
abbrev pub call : DictionaryMethod → Entries → List Data → Result Data OperationRefusal
call Get es arguments = get es arguments
call HasKey es arguments = has_key es arguments
call Keys es arguments = keys es arguments

-- Returns the result of the method of a dictionary with this name.
abbrev pub answer : Entries → List ℕ → List Data → Result Data OperationRefusal
answer es name arguments = result_of_method (dictionary_method_named name) (λ m. call m es arguments)
