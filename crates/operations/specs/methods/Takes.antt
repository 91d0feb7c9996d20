-- Describes in words what each method takes, by the type of its receiver.
use Rattle.std.specs.Prelude.{ℕ, List, [], Option, Some, None}
use Rattle.values.specs.Data.{Data, boolean, integer, text, list, dictionary, object}
use Rattle.values.specs.language_names.ValueMethods.{boolean_method_named, dictionary_method_named, integer_method_named, list_method_named}
use Rattle.values.specs.language_names.ValueMethods.{text_method_named}
use Rattle.operations.specs.methods.Booleans as booleans
use Rattle.operations.specs.methods.Integers as integers
use Rattle.operations.specs.methods.Lists as lists
use Rattle.operations.specs.methods.Dictionaries as dictionaries
use Rattle.operations.specs.methods.TextMethods as texts

-- Returns the words for a method, and nothing if there is no method.
abbrev pub words_of : {A : Type 0} → (A → List ℕ) → Option A → List ℕ
words_of words (Some method) = words method
words_of words None = []

-- Returns the words for the method with this name, by the type of the receiver.
abbrev pub takes_words : Data → List ℕ → List ℕ
takes_words (boolean b) name = words_of booleans.argument_words (boolean_method_named name)
takes_words (integer z) name = words_of integers.argument_words (integer_method_named name)
takes_words (text t) name = words_of texts.argument_words (text_method_named name)
takes_words (list ds) name = words_of lists.argument_words (list_method_named name)
takes_words (dictionary es) name = words_of dictionaries.argument_words (dictionary_method_named name)
takes_words (object o) name = []
