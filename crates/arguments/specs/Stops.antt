-- Relates a part of a call to its definition.
use Rattle.std.specs.Prelude.{◌≡◌, Result, Ok, Err}
use Rattle.arguments.specs.Refused.{RefusedData, refused_data}
use Rattle.arguments.specs.declared.stop.CallStop.{CallStop}
use Rattle.arguments.specs.declared.stop.CallStop.TheVariants as stops
use Rattle.values.specs.declared.refusal.OperationRefusal.{OperationRefusal}

-- Holds if the part returned what the definition of an operation gives, seen through this view, or its refusal, or if it ran out of memory.
abbrev pub Gives : {A B : Type 0} → (B → A) → Result A OperationRefusal → Result B CallStop → Type 0
Gives view given (Ok x) = given ≡ Ok (view x)
Gives view given (Err (stops.Arguments refused)) = ⊥
Gives view given (Err (stops.Operation refusal)) = given ≡ Err refusal
Gives view given (Err stops.Memory) = Unit {0}

-- Holds if the part returned what the arguments say, seen through this view, or their refusal, or if it ran out of memory.
abbrev pub Says : {A B : Type 0} → (B → A) → Result A RefusedData → Result B CallStop → Type 0
Says view said (Ok x) = said ≡ Ok (view x)
Says view said (Err (stops.Arguments refused)) = said ≡ Err (refused_data refused)
Says view said (Err (stops.Operation refusal)) = ⊥
Says view said (Err stops.Memory) = Unit {0}
