-- What there is is handed on, or the call is refused where there is none.
use Rattle.std.proofs.Common.{◌≡◌, Option, Some, None, Result, Ok, Err, option_map, ap, subst}
use Rattle.std.specs.Prelude.{ok_or}
use Rattle.support.specs.declared.faults.refusal.Refusal.{Refusal}
use Rattle.support.specs.declared.faults.refusal.Refusal.TheVariants.{Arguments}
use Rattle.world.specs.Answering.{Carries, IsFitting, State}
use Rattle.world.specs.Deed.{fitting_value}
use Rattle.world.specs.declared.stop.Stop.{Stop}
use Rattle.world.proofs.Answering.{carries_fitting}

pub carries_found : {A B : Type 0} {view : B → A} {given : Option A} (found : Option B) {answer : Result B Refusal} {s : State}
    {result : Result B Stop} → given ≡ option_map view found → answer ≡ ok_or found Arguments → IsFitting s.world answer result
    → Carries view (fitting_value (ok_or given Arguments)) s result s
carries_found {view = view} (Some x) {s = s} {result = result} is said fits =
    carries_fitting {view = view} _ (Ok x) (ap (λ o. ok_or o Arguments) is) (subst (λ a. IsFitting s.world a result) said fits)
carries_found {view = view} None {s = s} {result = result} is said fits =
    carries_fitting {view = view} _ (Err Arguments) (ap (λ o. ok_or o Arguments) is) (subst (λ a. IsFitting s.world a result) said fits)

-- the same of what is its own plain data
pub carries_itself : {A : Type 0} {given : Option A} (found : Option A) {answer : Result A Refusal} {s : State} {result : Result A Stop}
    → given ≡ found → answer ≡ ok_or found Arguments → IsFitting s.world answer result
    → Carries (λ x. x) (fitting_value (ok_or given Arguments)) s result s
carries_itself {A = A} (Some x) is said fits = carries_found {view = λ (a : A). a} (Some x) is said fits
carries_itself {A = A} None is said fits = carries_found {view = λ (a : A). a} None is said fits
