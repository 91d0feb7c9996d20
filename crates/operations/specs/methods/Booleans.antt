-- Defines the methods of booleans: the type `bool` of the page "Reference manual".
use Rattle.std.specs.Prelude.{ℕ, pos, Bool, List, [], ◌∷◌, codes, Result, Ok, Err}
use Rattle.std.specs.Prelude.{if◌then◌else◌}
use Rattle.values.specs.declared.refusal.OperationRefusal.{OperationRefusal}
use Rattle.values.specs.declared.refusal.OperationRefusal.TheVariants as refusal
use Rattle.values.specs.Data.{Data, integer, text}
use Rattle.values.specs.declared.language_names.value_methods.BooleanMethod.{BooleanMethod}
use Rattle.values.specs.declared.language_names.value_methods.BooleanMethod.TheVariants.{ToInt, ToString}
use Rattle.operations.specs.methods.Steps.{◌>>=◌, result_of_method}
use Rattle.operations.specs.methods.Arguments.{no_arguments}
use Rattle.values.specs.language_names.ValueMethods.{boolean_method_named}

-- Returns 1 or 0.
abbrev pub to_int : Bool → List Data → Result Data OperationRefusal
to_int b arguments = do
  _ ← no_arguments arguments
  Ok (integer (if b then pos 1 else pos 0))

-- Returns `true` or `false`, or the first or second of two texts.
abbrev pub to_string : Bool → List Data → Result Data OperationRefusal
to_string b [] = Ok (text (if b then codes "true" else codes "false"))
to_string b (text first ∷ text second ∷ []) = Ok (text (if b then first else second))
to_string b arguments = Err refusal.Arguments

-- Describes in words what a method of a boolean takes.
abbrev pub argument_words : BooleanMethod → List ℕ
argument_words ToInt = codes "no arguments"
argument_words ToString = codes "no arguments, or two texts"

-- Returns the result of a method of a boolean.
abbrev pub call : BooleanMethod → Bool → List Data → Result Data OperationRefusal
call ToInt b arguments = to_int b arguments
call ToString b arguments = to_string b arguments

-- Returns the result of the method of a boolean with this name.
abbrev pub answer : Bool → List ℕ → List Data → Result Data OperationRefusal
answer b name arguments = result_of_method (boolean_method_named name) (λ m. call m b arguments)
