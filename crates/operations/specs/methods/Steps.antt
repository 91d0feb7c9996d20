-- Chains the steps of a call, each of which may be refused, and relates a call to its definition.
use Rattle.std.specs.Prelude.{◌≡◌, Option, ok_or, Result, Ok, Err}
pub use Rattle.support.specs.ResultSteps.{◌>>=◌}
use Rattle.values.specs.declared.refusal.OperationRefusal.{OperationRefusal}
use Rattle.values.specs.declared.refusal.OperationRefusal.TheVariants as refusal
use Rattle.values.specs.declared.value.Value.{Value}
use Rattle.values.specs.Data.{Data}
use Rattle.values.specs.View.{data_of}
use Rattle.operations.specs.declared.methods.stop.MethodStop.{MethodStop}
use Rattle.operations.specs.declared.methods.stop.MethodStop.TheVariants as stop

-- Returns the result of the method that a name denotes, or the refusal E8 if there is no such method.
abbrev pub result_of_method : {M : Type 0} → (named : Option M) → (M → Result Data OperationRefusal) → Result Data OperationRefusal
result_of_method named answer = do
  method ← ok_or named refusal.UnknownMethod
  answer method

-- Holds if the call returned the value that the definition gives, or its refusal, or if it ran out of memory.
abbrev pub Gives : Result Data OperationRefusal → Result Value MethodStop → Type 0
Gives given (Ok v) = given ≡ Ok (data_of v)
Gives given (Err (stop.Refused r)) = given ≡ Err r
Gives given (Err (stop.Memory e)) = Unit {0}
