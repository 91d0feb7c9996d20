-- What the methods give.
use Rattle.std.proofs.Common.{◌≡◌, Result, subst}
use Rattle.arguments.specs.Stops.{Gives}
use Rattle.arguments.specs.declared.stop.CallStop.{CallStop}
use Rattle.values.specs.Data.{Data}
use Rattle.values.specs.View.{data_of}
use Rattle.values.specs.declared.refusal.OperationRefusal.{OperationRefusal}
use Rattle.values.specs.declared.value.Value.{Value}

-- the same, written otherwise
pub gives_as : {given other : Result Data OperationRefusal} (result : Result Value CallStop)
    → given ≡ other → Gives data_of given result → Gives data_of other result
gives_as result e p = subst (λ g. Gives data_of g result) e p
