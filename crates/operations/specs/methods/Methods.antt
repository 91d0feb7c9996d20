-- Defines the methods of values other than objects, by the type of the receiver.
use Rattle.std.specs.Prelude.{ℕ, Bool, false, List, is_some, Result, Err}
use Rattle.values.specs.declared.refusal.OperationRefusal.{OperationRefusal}
use Rattle.values.specs.declared.refusal.OperationRefusal.TheVariants as refusal
use Rattle.values.specs.Data.{Data, boolean, integer, text, list, dictionary, object}
use Rattle.values.specs.language_names.ValueMethods.{boolean_method_named, dictionary_method_named, integer_method_named, list_method_named}
use Rattle.values.specs.language_names.ValueMethods.{text_method_named}
use Rattle.operations.specs.methods.Integers as integers
use Rattle.operations.specs.methods.Booleans as booleans
use Rattle.operations.specs.methods.TextMethods as texts
use Rattle.operations.specs.methods.Lists as lists
use Rattle.operations.specs.methods.Dictionaries as dictionaries

-- Returns the result of a method of a receiver, or its refusal. The name is checked first, then the arguments.
abbrev pub answer : Data → List ℕ → List Data → Result Data OperationRefusal
answer (boolean b) name arguments = booleans.answer b name arguments
answer (integer z) name arguments = integers.answer z name arguments
answer (text t) name arguments = texts.answer t name arguments
answer (list ds) name arguments = lists.answer ds name arguments
answer (dictionary es) name arguments = dictionaries.answer es name arguments
answer (object o) name arguments = Err refusal.UnknownMethod

-- Holds if the type of a receiver has a method with this name.
abbrev pub has_name : Data → List ℕ → Bool
has_name (boolean b) name = is_some (boolean_method_named name)
has_name (integer z) name = is_some (integer_method_named name)
has_name (text t) name = is_some (text_method_named name)
has_name (list ds) name = is_some (list_method_named name)
has_name (dictionary es) name = is_some (dictionary_method_named name)
has_name (object o) name = false
