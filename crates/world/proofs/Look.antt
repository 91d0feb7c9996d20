-- An act depends only on the paths that it looks at and on the questions that it asks, where it is a deed or a plan.
use Rattle.std.proofs.Common.{◌≡◌, ℕ, List, [], ◌∷◌, ◌++◌, Option, Some, None, Result, Ok, Err, is_some, refl, sym, ap, subst, ◌∙◌}
use Rattle.std.proofs.Common.{append_assoc, append-nil}
use Rattle.support.specs.Faults.{FaultData}
use Rattle.ports.specs.Outputs.{Step, closing_steps, opening_steps}
use Rattle.ports.specs.Tree.{file_at}
use Rattle.machine_file.specs.Files.{Section}
use Rattle.machine_file.specs.Questions.{Question, answer_to}
use Rattle.build.specs.project.Adding.{output_answer}
use Rattle.build.specs.project.Refused.{RefusedData}
use Rattle.support.specs.paths.Paths.{path_in}
use Rattle.world.specs.Making.{Filling, after_output, filled_output, given_up, reserved_output, taken_by, sent_steps, written_output}
use Rattle.world.specs.Store.{world_after_change}
use Rattle.world.specs.Trace.{Mark}
use Rattle.world.specs.World.{Asked, World, asked_here, world_after_question, facts_after_declaration, world_after_look, fault_here}
use Rattle.world.specs.Run.{Run, ran, Act, Done, Faulted, after, follow, pure, with_end, world_after}
use Rattle.world.specs.Deed.{Files, Deed, give, refuse, tell, ask, consult, read, change, begin_project, make, then, perform}
use Rattle.world.specs.Plan.{Plan, deed, ruled, enter, entered, next as next_plan, carry}
use Rattle.world.specs.Look.{Agree, AgreeOn, Grows, Depends, over, ran_over}

kept : {A : Type 0} (l : List A) → Grows l l
kept l = record { more = []; is = sym (append-nil l) }

kept_as : {A : Type 0} {k l : List A} → k ≡ l → Grows l k
kept_as {l = l} e = record { more = []; is = e ∙ sym (append-nil l) }

grown : {A : Type 0} {a b c : List A} → Grows a b → Grows b c → Grows a c
grown {a = a} p q = record { more = p.more ++ q.more; is = q.is ∙ ap (λ l. l ++ q.more) p.is ∙ append_assoc a p.more q.more }

grown_to : {A : Type 0} {a b c : List A} → c ≡ b → Grows a b → Grows a c
grown_to e p = record { more = p.more; is = e ∙ p.is }

-- ---- what two trees and two machine files agree on

agree-front : (f g : Files) (a b : List (List ℕ)) → Agree f g (a ++ b) → Agree f g a
agree-front f g [] b h = tt
agree-front f g (p ∷ a) b h = (h.0, agree-front f g a b h.1)

agree-last : (f g : Files) (a : List (List ℕ)) (p : List ℕ) → Agree f g (a ++ p ∷ []) → file_at f p ≡ file_at g p
agree-last f g [] p h = h.0
agree-last f g (q ∷ a) p h = agree-last f g a p h.1

agree_before : (f g : Files) {a b : List (List ℕ)} → Grows a b → Agree f g b → Agree f g a
agree_before f g {a = a} p h = agree-front f g a p.more (subst (λ l. Agree f g l) p.is h)

answers-front : (m n : List Section) (a b : List Asked) → AgreeOn m n (a ++ b) → AgreeOn m n a
answers-front m n [] b h = tt
answers-front m n (q ∷ a) b h = (h.0, answers-front m n a b h.1)

answers-last : (m n : List Section) (a : List Asked) (q : Asked) → AgreeOn m n (a ++ q ∷ []) → answer_to m q.question.topic ≡ answer_to n q.question.topic
answers-last m n [] q h = h.0
answers-last m n (p ∷ a) q h = answers-last m n a q h.1

answers_before : (m n : List Section) {a b : List Asked} → Grows a b → AgreeOn m n b → AgreeOn m n a
answers_before m n {a = a} p h = answers-front m n a p.more (subst (λ l. AgreeOn m n l) p.is h)

-- ---- runs

looked-after : {A : Type 0} (ms : List Mark) (r : Run A) → (world_after (after ms r)).looked ≡ (world_after r).looked
looked-after ms (ran o w ns) = refl

asked-after : {A : Type 0} (ms : List Mark) (r : Run A) → (world_after (after ms r)).asked ≡ (world_after r).asked
asked-after ms (ran o w ns) = refl

machine-after : {A : Type 0} (ms : List Mark) (r : Run A) → (world_after (after ms r)).machine ≡ (world_after r).machine
machine-after ms (ran o w ns) = refl

over-after : {A : Type 0} (n : List Section) (ms : List Mark) (r : Run A) → ran_over n (after ms r) ≡ after ms (ran_over n r)
over-after n ms (ran o w ns) = refl

-- the run of an act, and what follows it
module _ {A B : Type 0} (next : A → Act B) where
  follow-looks : (r : Run A) → ((a : A) (w : World) → Grows w.looked (world_after (next a w)).looked) → Grows (world_after r).looked (world_after (follow r next)).looked
  follow-looks (ran (Done a) w ms) p = grown_to (looked-after ms (next a w)) (p a w)
  follow-looks (ran (Faulted f) w ms) p = kept w.looked

  follow-asks : (r : Run A) → ((a : A) (w : World) → Grows w.asked (world_after (next a w)).asked) → Grows (world_after r).asked (world_after (follow r next)).asked
  follow-asks (ran (Done a) w ms) p = grown_to (asked-after ms (next a w)) (p a w)
  follow-asks (ran (Faulted f) w ms) p = kept w.asked

  follow-keeps : (r : Run A) → ((a : A) (w : World) → (world_after (next a w)).machine ≡ w.machine) → (world_after (follow r next)).machine ≡ (world_after r).machine
  follow-keeps (ran (Done a) w ms) p = machine-after ms (next a w) ∙ p a w
  follow-keeps (ran (Faulted f) w ms) p = refl

  follow-same : (f g : Files) (n : List Section) (r : Run A) (other : A → Act B)
      → ((a : A) (w : World) → Agree f g (world_after (next a w)).looked → AgreeOn w.machine n (world_after (next a w)).asked → other a (over n w) ≡ ran_over n (next a w))
      → Agree f g (world_after (follow r next)).looked → AgreeOn (world_after r).machine n (world_after (follow r next)).asked → follow (ran_over n r) other ≡ ran_over n (follow r next)
  follow-same f g n (ran (Done a) w ms) other p h i =
      ap (after ms) (p a w (subst (λ l. Agree f g l) (looked-after ms (next a w)) h) (subst (λ l. AgreeOn w.machine n l) (asked-after ms (next a w)) i)) ∙ sym (over-after n ms (next a w))
  follow-same f g n (ran (Faulted x) w ms) other p h i = refl

-- one act after another
chain : {A B : Type 0} (act : Files → Act A) (next : Files → A → Act B) → Depends act → ((a : A) → Depends (λ f. next f a)) → Depends (λ f w. follow (act f w) (next f))
chain act next p q =
    let looks = λ (f : Files) (w : World). follow-looks (next f) (act f w) (λ a w'. (q a).grows f w') in
    let asks = λ (f : Files) (w : World). follow-asks (next f) (act f w) (λ a w'. (q a).asks f w') in
    record {
      grows = λ f w. grown (p.grows f w) (looks f w);
      asks = λ f w. grown (p.asks f w) (asks f w);
      keeps = λ f w. follow-keeps (next f) (act f w) (λ a w'. (q a).keeps f w') ∙ p.keeps f w;
      same = λ f g n w h i.
          ap (λ r. follow r (next g)) (p.same f g n w (agree_before f g (looks f w) h) (answers_before w.machine n (asks f w) i))
          ∙ follow-same (next f) f g n (act f w) (next g) (λ a w' h' i'. (q a).same f g n w' h' i') h
          (subst (λ m. AgreeOn m n (world_after (follow (act f w) (next f))).asked) (sym (p.keeps f w)) i);
    }

-- an act that looks at nothing, asks nothing, and leaves the machine file alone
still : {A : Type 0} (act : Act A) → ((w : World) → (world_after (act w)).looked ≡ w.looked) → ((w : World) → (world_after (act w)).asked ≡ w.asked) → ((w : World) → (world_after (act w)).machine ≡ w.machine)
    → ((n : List Section) (w : World) → act (over n w) ≡ ran_over n (act w)) → Depends (λ f. act)
still act looked asked machine same =
    record { grows = λ f w. kept_as (looked w); asks = λ f w. kept_as (asked w); keeps = λ f w. machine w; same = λ f g n w h i. same n w }

with_end-looked : {A : Type 0} (r : Run A) → (world_after (with_end r)).looked ≡ (world_after r).looked
with_end-looked (ran o w ms) = refl

with_end-asked : {A : Type 0} (r : Run A) → (world_after (with_end r)).asked ≡ (world_after r).asked
with_end-asked (ran o w ms) = refl

with_end-machine : {A : Type 0} (r : Run A) → (world_after (with_end r)).machine ≡ (world_after r).machine
with_end-machine (ran o w ms) = refl

with_end-over : {A : Type 0} (n : List Section) (r : Run A) → with_end (ran_over n r) ≡ ran_over n (with_end r)
with_end-over n (ran o w ms) = refl

rules : {A : Type 0} (act : Files → Act A) → Depends act → Depends (λ f w. with_end (act f w))
rules act p = record {
  grows = λ f w. grown_to (with_end-looked (act f w)) (p.grows f w);
  asks = λ f w. grown_to (with_end-asked (act f w)) (p.asks f w);
  keeps = λ f w. with_end-machine (act f w) ∙ p.keeps f w;
  same = λ f g n w h i. ap with_end (p.same f g n w (subst (λ l. Agree f g l) (with_end-looked (act f w)) h) (subst (λ l. AgreeOn w.machine n l) (with_end-asked (act f w)) i)) ∙ with_end-over n (act f w);
}

looks : (path : List ℕ) → Depends (λ f. perform f (ask path))
looks path = record {
  grows = λ f w. record { more = path ∷ []; is = refl };
  asks = λ f w. kept w.asked;
  keeps = λ f w. refl;
  same = λ f g n w h i. ap (λ o. ran (Done o) (world_after_look (over n w) path (is_some o)) []) (sym (agree-last f g w.looked path h));
}

asks : (question : Question) → Depends (λ f. perform f (consult question))
asks question = record {
  grows = λ f w. kept w.looked;
  asks = λ f w. record { more = asked_here w question ∷ []; is = refl };
  keeps = λ f w. refl;
  same = λ f g n w h i. ap (λ o. ran (Done o) (world_after_question (over n w) question) []) (sym (answers-last w.machine n w.asked (asked_here w question) i));
}

-- ---- an output

taken_by-over : (answer : Result (Unit {0}) RefusedData) (n : List Section) (w : World) → taken_by answer (over n w) ≡ ran_over n (taken_by answer w)
taken_by-over (Ok _) n w = refl
taken_by-over (Err refusal) n w = refl

-- the world is that in which the project has answered
pub world_taken : (answer : Result (Unit {0}) RefusedData) (w : World) → world_after (taken_by answer w) ≡ w
world_taken (Ok _) w = refl
world_taken (Err refusal) w = refl

takes : (folder name : List ℕ) → Depends (λ f. reserved_output folder name)
takes folder name =
    let answer = λ (w : World). output_answer w.facts.project folder name in
    let later = λ (w : World). world_after_change (facts_after_declaration (after_output folder name)) w in
    still (reserved_output folder name) (λ w. ap (λ (v : World). v.looked) (world_taken (answer w) (later w))) (λ w. ap (λ (v : World). v.asked) (world_taken (answer w) (later w)))
    (λ w. ap (λ (v : World). v.machine) (world_taken (answer w) (later w))) (λ n w. taken_by-over (answer w) n (later w))

given_up-over : (fault : Option FaultData) → Depends (λ f. given_up fault)
given_up-over None = still (given_up None) (λ w. refl) (λ w. refl) (λ w. refl) (λ n w. refl)
given_up-over (Some fault) = still (given_up (Some fault)) (λ w. refl) (λ w. refl) (λ w. refl) (λ n w. refl)

tells : (steps : List Step) → Depends (λ f. sent_steps steps)
tells steps = still (sent_steps steps) (λ w. refl) (λ w. refl) (λ w. refl) (λ n w. refl)

fills : (filling : Filling) → Depends (λ f. filled_output filling)
fills filling = chain (λ f. sent_steps filling.steps) (λ f _. given_up filling.fault) (tells filling.steps) (λ _. given_up-over filling.fault)

writes : (path : List ℕ) (filling : Filling) → Depends (λ f. written_output path filling)
writes path filling =
    chain (λ f. sent_steps (opening_steps path)) (λ f _ v. follow (filled_output filling v) (λ _. sent_steps closing_steps)) (tells (opening_steps path))
    (λ _. chain (λ f. filled_output filling) (λ f _. sent_steps closing_steps) (fills filling) (λ _. tells closing_steps))

-- each deed, by its steps
pub deed-depends : {A : Type 0} (d : Deed A) → Depends (λ f. perform f d)
deed-depends (give a) = still (λ w. ran (Done a) w []) (λ w. refl) (λ w. refl) (λ w. refl) (λ n w. refl)
deed-depends (refuse refusal detail) = still (λ w. ran (Faulted (fault_here w refusal detail)) w []) (λ w. refl) (λ w. refl) (λ w. refl) (λ n w. refl)
deed-depends (tell steps) = still (perform [] (tell steps)) (λ w. refl) (λ w. refl) (λ w. refl) (λ n w. refl)
deed-depends (ask path) = looks path
deed-depends (consult question) = asks question
deed-depends read = still (perform [] read) (λ w. refl) (λ w. refl) (λ w. refl) (λ n w. refl)
deed-depends (change g leaves) = still (perform [] (change g leaves)) (λ w. refl) (λ w. refl) (λ w. refl) (λ n w. refl)
deed-depends (begin_project facts) = still (perform [] (begin_project facts)) (λ w. refl) (λ w. refl) (λ w. refl) (λ n w. refl)
deed-depends (make folder name ready filling) =
    chain (λ f. reserved_output folder name) (λ f _ v. follow (perform f ready v) (λ a u. follow (written_output (path_in folder name) filling u) (λ _. pure a))) (takes folder name)
    (λ _. chain (λ f. perform f ready) (λ f a u. follow (written_output (path_in folder name) filling u) (λ _. pure a)) (deed-depends ready)
    (λ a. chain (λ f. written_output (path_in folder name) filling) (λ f _. pure a) (writes (path_in folder name) filling) (λ _. still (pure a) (λ w. refl) (λ w. refl) (λ w. refl) (λ n w. refl))))
deed-depends (then first next) = chain (λ f. perform f first) (λ f a. perform f (next a)) (deed-depends first) (λ a. deed-depends (next a))

-- each plan, by its steps
pub plan-depends : {A : Type 0} (p : Plan A) → Depends (λ f. carry f p)
plan-depends (deed d) = deed-depends d
plan-depends (ruled p) = rules (λ f. carry f p) (plan-depends p)
plan-depends (enter folder) = still (carry [] (enter folder)) (λ w. refl) (λ w. refl) (λ w. refl) (λ n w. refl)
plan-depends entered = still (carry [] entered) (λ w. refl) (λ w. refl) (λ w. refl) (λ n w. refl)
plan-depends (next_plan first others) = chain (λ f. carry f first) (λ f a. carry f (others a)) (plan-depends first) (λ a. plan-depends (others a))
