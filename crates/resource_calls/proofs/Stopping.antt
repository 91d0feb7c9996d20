-- A step that stops.
use Rattle.std.proofs.Common.{◌≡◌, Result, Ok, Err, IsErrAnd, ap, sym, subst}
use Rattle.arguments.specs.Stops.{Gives}
use Rattle.arguments.specs.declared.stop.CallStop.{CallStop}
use Rattle.arguments.specs.declared.stop.CallStop.TheVariants as call_stops
use Rattle.support.specs.ResultSteps.{◌>>=◌}
use Rattle.values.specs.declared.refusal.OperationRefusal.{OperationRefusal}

-- a chain stops as its first step does
stops : {A B C D : Type 0} (view : C → A) (other : D → B) (given : Result A OperationRefusal) (next : A → Result B OperationRefusal) (stop : CallStop)
    → Gives view given (Err stop) → Gives other (given >>= next) (Err stop)
stops view other given next (call_stops.Arguments refused) is = absurd is
stops view other given next (call_stops.Operation refusal) is = ap (λ r. r >>= next) is
stops view other given next call_stops.Memory is = tt

pub gives_stop : {A B C D : Type 0} (view : C → A) (other : D → B) (given : Result A OperationRefusal) (next : A → Result B OperationRefusal) (stop : CallStop)
    (result : Result D CallStop) → IsErrAnd result (λ s. s ≡ stop) → Gives view given (Err stop) → Gives other (given >>= next) result
gives_stop view other given next stop (Ok x) same is = absurd same
gives_stop view other given next stop (Err s) same is = subst (λ e. Gives other (given >>= next) (Err e)) (sym same) (stops view other given next stop is)
