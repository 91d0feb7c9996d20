-- Questions that are equal.
use Rattle.std.proofs.Common.{◌≡◌, List, Result, subst}
use Rattle.machine_file.specs.Files.{Section}
use Rattle.machine_file.specs.Questions.{Question, answer_to}
use Rattle.world.specs.Answering.{State, Carries}
use Rattle.world.specs.Deed.{consult}
use Rattle.world.specs.declared.stop.Stop.{Stop}

pub asked_as : {B : Type 0} (m : List Section) {q r : Question} {s0 s1 : State} {result : Result B Stop} → q ≡ r
    → Carries (λ (u : B). answer_to m q.topic) (consult q) s0 result s1 → Carries (λ (u : B). answer_to m r.topic) (consult r) s0 result s1
asked_as {B = B} m {s0 = s0} {s1 = s1} {result = result} e p =
    subst (λ (x : Question). Carries (λ (u : B). answer_to m x.topic) (consult x) s0 result s1) e p
