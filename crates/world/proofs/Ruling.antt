-- Rules that are kept or broken.
use Rattle.std.proofs.Common.{◌≡◌, refl, ℕ, List, Option, Some, None, Result, Ok, Err, IsErrAnd, sym, subst}
use Rattle.arguments.specs.Refused.{RefusedData, said_data}
use Rattle.arguments.specs.Rules.{breach_message}
use Rattle.arguments.specs.declared.refused.ArgumentError.{ArgumentError}
use Rattle.arguments.specs.declared.rule.Rule.{Rule}
use Rattle.support.specs.Faults.{FaultData}
use Rattle.support.specs.declared.faults.refusal.Refusal.TheVariants as refusals
use Rattle.world.specs.Answering.{Carries, IsPassed, Refuses, State}
use Rattle.world.specs.Fit.{deed_of_result}
use Rattle.world.specs.Gives.{IsRefusal}
use Rattle.world.specs.Ruled.{ruled_value}
use Rattle.world.specs.World.{fault_here}
use Rattle.world.specs.declared.stop.Stop.{Stop}
use Rattle.world.specs.declared.stop.Stop.TheVariants as stops
use Rattle.world.proofs.Answering.{carries_give, carries_refuse, carries_same}

-- want of memory stands in for each refusal
pub refuses_none : {B : Type 0} (f : FaultData) (result : Result B Stop) → IsErrAnd result (λ e. e ≡ stops.Memory) → Refuses f result
refuses_none f (Ok x) is = absurd is
refuses_none f (Err s) is = subst (λ (x : Stop). IsRefusal x f) (sym is) tt

pub ruled_found : {A B : Type 0} {view : B → A} (found : Option A) (rule : Rule) (text : List ℕ) {s : State} {x : B}
    → Some (view x) ≡ found → Carries view (ruled_value found rule text) s (Ok x) s
unfolding ruled_value
ruled_found {view = view} found rule text {s = s} {x = x} is = subst (λ o. Carries view (ruled_value o rule text) s (Ok x) s) is (carries_give refl)

pub ruled_broken : {A B : Type 0} {view : B → A} (found : Option A) (rule : Rule) (text : List ℕ) {s : State} {result : Result B Stop}
    → None ≡ found → Refuses (fault_here s.world refusals.Arguments (breach_message rule text)) result
    → Carries view (ruled_value found rule text) s result s
unfolding ruled_value
ruled_broken {view = view} found rule text {s = s} {result = result} is r =
    subst (λ o. Carries view (ruled_value o rule text) s result s) is (carries_refuse r)

-- what arguments say, or their refusal
pub carries_passed : {A B : Type 0} {view : B → A} (given : Result A RefusedData) (answer : Result B ArgumentError) {s : State} {result : Result B Stop}
    → said_data view answer ≡ given → IsPassed s.world answer result → Carries view (deed_of_result given) s result s
carries_passed {view = view} given (Ok x) {s = s} {result = result} said is =
    subst (λ g. Carries view (deed_of_result g) s result s) said (carries_same is (carries_give refl))
carries_passed {view = view} given (Err r) {s = s} {result = result} said is =
    subst (λ g. Carries view (deed_of_result g) s result s) said (carries_refuse is)
