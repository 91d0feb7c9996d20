-- What the parts of a call return, against their deeds.
use Rattle.std.proofs.Common.{◌≡◌, ℕ, List, Result, Ok, Err, ap, ◌∙◌, refl, sym, subst}
use Rattle.arguments.specs.Refused.{RefusedData}
use Rattle.arguments.specs.Stops.{Gives, Says}
use Rattle.arguments.specs.declared.rule.Rule.{Rule}
use Rattle.arguments.specs.declared.stop.CallStop.{CallStop}
use Rattle.arguments.specs.declared.stop.CallStop.TheVariants as call_stops
use Rattle.values.specs.Data.{Data}
use Rattle.values.specs.View.{data_of}
use Rattle.values.specs.declared.refusal.OperationRefusal.{OperationRefusal}
use Rattle.values.specs.declared.value.Value.{Value}
use Rattle.world.specs.Answering.{Carries, State}
use Rattle.world.specs.Deed.{answer_or_refusal, read, then}
use Rattle.world.specs.Fit.{deed_of_result}
use Rattle.world.specs.Ruled.{answered_by}
use Rattle.world.specs.Settling.{IsSettled, IsSettledBy}
use Rattle.world.specs.World.{Facts}
use Rattle.world.specs.declared.stop.Stop.{Stop}
use Rattle.world.proofs.Answering.{carries_answered, carries_none, carries_read, carries_same, carries_value_by}
use Rattle.world.proofs.Ruling.{carries_passed}

-- what an operation gives, or its refusal
pub carries_given : {A B : Type 0} {view : B → A} (given : Result A OperationRefusal) (answer : Result B CallStop) {s : State} {result : Result B Stop}
    → Gives view given answer → IsSettled s.world answer result → Carries view (answer_or_refusal given) s result s
carries_given given (Ok x) gives is = carries_answered given (Ok x) gives is
carries_given given (Err (call_stops.Arguments refused)) gives is = absurd gives
carries_given given (Err (call_stops.Operation refusal)) gives is = carries_answered given (Err refusal) gives is
carries_given given (Err call_stops.Memory) gives is = carries_same is (carries_none refl)

-- what an operation gives, or the refusal that a rule is told of
pub carries_given_by : (rule : Rule) (text : List ℕ) (given : Result Data OperationRefusal) (answer : Result Value CallStop) {s : State} {result : Result Value Stop}
    → Gives data_of given answer → IsSettledBy s.world rule text answer result → Carries data_of (answered_by rule text given) s result s
carries_given_by rule text given (Ok x) gives is = carries_value_by rule text given (Ok x) gives is
carries_given_by rule text given (Err (call_stops.Arguments refused)) gives is = absurd gives
carries_given_by rule text given (Err (call_stops.Operation refusal)) gives is = carries_value_by rule text given (Err refusal) gives is
carries_given_by rule text given (Err call_stops.Memory) gives is = carries_same is (carries_none refl)

-- what arguments say, or their refusal
pub carries_says : {A B : Type 0} {view : B → A} (said : Result A RefusedData) (answer : Result B CallStop) {s : State} {result : Result B Stop}
    → Says view said answer → IsSettled s.world answer result → Carries view (deed_of_result said) s result s
carries_says {view = view} said (Ok x) says is = carries_passed {view = view} said (Ok x) (sym says) is
carries_says {view = view} said (Err (call_stops.Arguments refused)) says is = carries_passed {view = view} said (Err refused) (sym says) is
carries_says said (Err (call_stops.Operation refusal)) says is = absurd says
carries_says said (Err call_stops.Memory) says is = carries_same is (carries_none refl)

-- what arguments say, seen from the facts
pub carries_says_of : {A B F : Type 0} {view : B → A} (says : F → Result A RefusedData) (seen : Facts → F) {x : F}
    (answer : Result B CallStop) {s : State} {result : Result B Stop}
    → Says view (says x) answer → x ≡ seen s.world.facts → IsSettled s.world answer result
    → Carries view (then read (λ facts. deed_of_result (says (seen facts)))) s result s
carries_says_of {view = view} says seen answer said is p =
    carries_read (carries_says {view = view} _ answer (subst (λ y. Says view (says y) answer) is said) p)
