-- Defines the methods of integers: the type `int` of the page "Reference manual".
use Rattle.std.specs.Prelude.{ℕ, ℤ, ◌%◌, ◌==◌, not, unsigned_abs, List, Result, Ok, codes}
use Rattle.std.specs.Fmt.{signed_decimal}
use Rattle.values.specs.declared.refusal.OperationRefusal.{OperationRefusal}
use Rattle.values.specs.Data.{Data, boolean, text}
use Rattle.values.specs.Limits.{within}
use Rattle.values.specs.declared.language_names.value_methods.IntegerMethod.{IntegerMethod}
use Rattle.values.specs.declared.language_names.value_methods.IntegerMethod.TheVariants.{IsEven, IsOdd, ToString}
use Rattle.operations.specs.methods.Steps.{◌>>=◌, result_of_method}
use Rattle.operations.specs.methods.Arguments.{no_arguments}
use Rattle.values.specs.language_names.ValueMethods.{integer_method_named}

-- Returns whether an integer is even, which its absolute value decides.
abbrev pub is_even : ℤ → List Data → Result Data OperationRefusal
is_even z arguments = do
  _ ← no_arguments arguments
  Ok (boolean (unsigned_abs z % 2 == 0))

-- Returns whether an integer is odd, which its absolute value decides.
abbrev pub is_odd : ℤ → List Data → Result Data OperationRefusal
is_odd z arguments = do
  _ ← no_arguments arguments
  Ok (boolean (not (unsigned_abs z % 2 == 0)))

-- Returns an integer in decimal.
abbrev pub to_string : ℤ → List Data → Result Data OperationRefusal
to_string z arguments = do
  _ ← no_arguments arguments
  within (text (signed_decimal z))

-- Describes in words what a method of an integer takes.
abbrev pub argument_words : IntegerMethod → List ℕ
argument_words IsEven = codes "no arguments"
argument_words IsOdd = codes "no arguments"
argument_words ToString = codes "no arguments"

-- Returns the result of a method of an integer.
abbrev pub call : IntegerMethod → ℤ → List Data → Result Data OperationRefusal
call IsEven z arguments = is_even z arguments
call IsOdd z arguments = is_odd z arguments
call ToString z arguments = to_string z arguments

-- Returns the result of the method of an integer with this name.
abbrev pub answer : ℤ → List ℕ → List Data → Result Data OperationRefusal
answer z name arguments = result_of_method (integer_method_named name) (λ m. call m z arguments)
