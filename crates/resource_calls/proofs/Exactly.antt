-- Answers that are handed on as they are.
use Rattle.std.proofs.Common.{◌≡◌, Result, Ok, Err, refl, ap}
use Rattle.values.specs.declared.refusal.OperationRefusal.{OperationRefusal}
use Rattle.world.specs.Answering.{State, Carries, IsAnswered, Views}
use Rattle.world.specs.Deed.{answer_or_refusal}
use Rattle.world.specs.declared.stop.Stop.{Stop}
use Rattle.world.proofs.Answering.{carries_answered, carries_as}

views_itself : {A : Type 0} (answer : Result A OperationRefusal) → Views (λ (a : A). a) answer answer
views_itself (Ok a) = refl
views_itself (Err refusal) = refl

-- an answer that is what is given
pub carries_exactly : {A : Type 0} {given answer : Result A OperationRefusal} {s : State} {result : Result A Stop}
    → answer ≡ given → IsAnswered s.world answer result → Carries (λ (a : A). a) (answer_or_refusal given) s result s
carries_exactly {answer = answer} e is = carries_as (ap answer_or_refusal e) (carries_answered answer answer (views_itself answer) is)
