-- Compares what a call returned with what its definition gives.
use Rattle.std.specs.Prelude.{◌≡◌, ℕ, List, String, string_bytes, Result, Ok, Err}
use Rattle.values.specs.declared.refusal.OperationRefusal.{OperationRefusal}
use Rattle.values.specs.Data.{Data}
use Rattle.values.specs.View.{data_of}
use Rattle.values.specs.declared.value.Value.{Value}

-- Holds if the call returned the value that the definition gives, or its refusal.
abbrev pub Answers : Result Data OperationRefusal → Result Value OperationRefusal → Type 0
Answers given (Ok v) = given ≡ Ok (data_of v)
Answers given (Err r) = given ≡ Err r

-- Returns the text of a result, or its refusal.
abbrev pub string_in : {Z : Type 0} → Result (String Z) OperationRefusal → Result (List ℕ) OperationRefusal
string_in (Ok text) = Ok (string_bytes text)
string_in (Err refusal) = Err refusal
