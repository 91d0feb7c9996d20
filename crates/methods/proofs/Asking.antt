-- Questions of checks, whose texts are those of a call.
use Rattle.std.proofs.Common.{◌≡◌, ℕ, List, Result, subst}
use Rattle.arguments.specs.Arguments.{ArgumentsData}
use Rattle.machine_file.specs.Files.{Section}
use Rattle.machine_file.specs.Questions.{answer_to, check_topic}
use Rattle.resources.specs.Beside.{call_question}
use Rattle.world.specs.Answering.{State, Carries}
use Rattle.world.specs.Deed.{consult}
use Rattle.world.specs.declared.stop.Stop.{Stop}

pub asked_of : {B : Type 0} (m : List Section) (method : List ℕ) {ts us : List (List ℕ)} (a : ArgumentsData) {s0 s1 : State} {result : Result B Stop} → ts ≡ us
    → Carries (λ (u : B). answer_to m (check_topic method ts)) (consult (call_question (check_topic method ts) a)) s0 result s1
    → Carries (λ (u : B). answer_to m (check_topic method us)) (consult (call_question (check_topic method us) a)) s0 result s1
asked_of {B = B} m method a {s0 = s0} {s1 = s1} {result = result} e p =
    subst (λ vs. Carries (λ (u : B). answer_to m (check_topic method vs)) (consult (call_question (check_topic method vs) a)) s0 result s1) e p
