-- Reads the arguments of a call. Each definition gives a refusal unless the arguments have the count and types that it requires.
use Rattle.std.specs.Prelude.{ℕ, ℤ, List, [], ◌∷◌, Option, Some, None, Result, Ok, Err}
use Rattle.values.specs.declared.refusal.OperationRefusal.{OperationRefusal}
use Rattle.values.specs.declared.refusal.OperationRefusal.TheVariants as refusal
use Rattle.values.specs.Data.{Data, integer, text}
use Rattle.operations.specs.methods.Steps.{◌>>=◌}

-- Succeeds if there are no arguments.
abbrev pub no_arguments : List Data → Result (Unit {0}) OperationRefusal
no_arguments [] = Ok tt
no_arguments (d ∷ ds) = Err refusal.Arguments

-- Returns the only argument.
abbrev pub one_argument : List Data → Result Data OperationRefusal
one_argument (d ∷ []) = Ok d
one_argument _ = Err refusal.Arguments

-- Returns a key or an index, and the fallback value, which is optional.
abbrev pub key_and_fallback : List Data → Result (Data × Option Data) OperationRefusal
key_and_fallback (key ∷ []) = Ok (key, None)
key_and_fallback (key ∷ fallback ∷ []) = Ok (key, Some fallback)
key_and_fallback _ = Err refusal.Arguments

-- Returns the text of an argument.
abbrev pub text_argument : Data → Result (List ℕ) OperationRefusal
text_argument (text t) = Ok t
text_argument d = Err refusal.Arguments

-- Returns the integer of an argument.
abbrev pub integer_argument : Data → Result ℤ OperationRefusal
integer_argument (integer z) = Ok z
integer_argument d = Err refusal.Arguments

-- Returns the text of the only argument.
abbrev pub one_text : List Data → Result (List ℕ) OperationRefusal
one_text arguments = do
  d ← one_argument arguments
  text_argument d

-- Returns the texts of the only two arguments.
abbrev pub two_texts : List Data → Result (List ℕ × List ℕ) OperationRefusal
two_texts (d ∷ e ∷ []) = do
  s ← text_argument d
  t ← text_argument e
  Ok (s, t)
two_texts _ = Err refusal.Arguments

-- Returns two integers, of which the second or both are optional.
abbrev pub bounds : List Data → Result (Option ℤ × Option ℤ) OperationRefusal
bounds [] = Ok (None, None)
bounds (d ∷ []) = do
  from ← integer_argument d
  Ok (Some from, None)
bounds (d ∷ e ∷ []) = do
  from ← integer_argument d
  to ← integer_argument e
  Ok (Some from, Some to)
bounds _ = Err refusal.Arguments
