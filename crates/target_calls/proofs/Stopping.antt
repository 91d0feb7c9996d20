-- A step that stops.
use Rattle.std.proofs.Common.{◌≡◌, Result, Ok, Err, IsErrAnd, ap, sym, subst}
use Rattle.arguments.specs.Said.{Said, ◌>>=◌}
use Rattle.arguments.specs.Stops.{Says}
use Rattle.arguments.specs.declared.stop.CallStop.{CallStop}
use Rattle.arguments.specs.declared.stop.CallStop.TheVariants as call_stops

-- a chain stops as its first step does
stops : {A B C D : Type 0} (view : C → A) (other : D → B) (said : Said A) (next : A → Said B) (stop : CallStop)
    → Says view said (Err stop) → Says other (said >>= next) (Err stop)
stops view other said next (call_stops.Arguments refused) is = ap (λ r. r >>= next) is
stops view other said next (call_stops.Operation refusal) is = absurd is
stops view other said next call_stops.Memory is = tt

pub says_stop : {A B C D : Type 0} (view : C → A) (other : D → B) (said : Said A) (next : A → Said B) (stop : CallStop)
    (result : Result D CallStop) → IsErrAnd result (λ s. s ≡ stop) → Says view said (Err stop) → Says other (said >>= next) result
says_stop view other said next stop (Ok x) same is = absurd same
says_stop view other said next stop (Err s) same is = subst (λ e. Says other (said >>= next) (Err e)) (sym same) (stops view other said next stop is)
