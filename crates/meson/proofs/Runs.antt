-- What a whole run tells.
use Rattle.std.proofs.Common.{◌≡◌, ℕ, ◌+◌, ◌≤◌, true, false, List, ◌++◌, Result, Ok, Err, refl, sym, ap, subst, ◌∙◌, append_assoc, arith}
use Rattle.std.proofs.lemmas.Bool.{false≢true}
use Rattle.ports.specs.Endings.{HasRoom}
use Rattle.ports.specs.Outputs.{OutputState, Step, Sends, faults}
use Rattle.ports.proofs.Sending.{sends_part, sends_stop, sends_then}
use Rattle.support.specs.Faults.{FaultData, fault_line}
use Rattle.support.specs.View.{fault_view}
use Rattle.backend.specs.Means.{Means}
use Rattle.backend.specs.Concluding.{Agrees, Whole, failed_devices, faulted_with, is_finished, outputs_steps, told_before}
use Rattle.backend.specs.declared.run_end.Status.{Status}
use Rattle.backend.specs.declared.run_end.Status.TheVariants as statuses
use Rattle.world.specs.Gives.{failures_after}
use Rattle.world.specs.Look.{ran_over}
use Rattle.world.specs.Run.{Outcome, Run, ran, Done, Faulted, marks_of, outcome_of, world_after}
use Rattle.world.specs.Store.{Kept}
use Rattle.world.specs.Trace.{Begins, Seen, steps_of}
use Rattle.world.specs.declared.stop.Stop.{Stop}
use Rattle.world.specs.declared.stop.Stop.TheVariants as stops
use Rattle.world.proofs.Marks.{steps_of-append}
use Rattle.interp.specs.Evaluated.{Evaluated}
use Rattle.interp.specs.Evaluation.{MachineSaid, sections_of}
use Rattle.meson.specs.Setup.{Keeps, OnDone, OnEnd, OnProject, Settles, whole_of}

-- the steps of a run begin with what its marks tell
whole_steps : (r : Run (Unit {0})) → (rest : List Step) × ((whole_of r).steps ≡ steps_of (marks_of r) ++ rest)
whole_steps (ran (Done x) w ms) = (outputs_steps w.facts.project, refl)
whole_steps (ran (Faulted f) w ms) = (faults (fault_line f), refl)

-- a beginning of a run's marks tells a beginning of its steps
begun_steps : (r : Run (Unit {0})) (old new : Seen) → Begins (marks_of r) old new → Sends old.out new.out (whole_of r).steps false
begun_steps r old new b =
    let rest = whole_steps r in
    let is : steps_of b.made ++ (steps_of b.left ++ rest.0) ≡ (whole_of r).steps
    = sym (append_assoc (steps_of b.made) (steps_of b.left) rest.0) ∙ ap (λ x. x ++ rest.0) (sym (steps_of-append b.made b.left) ∙ ap steps_of (sym b.all)) ∙ sym rest.1 in
    subst (λ x. Sends old.out new.out x false) is (sends_stop (steps_of b.left ++ rest.0) (sends_part b.written.sent))

-- a run tells the same over another machine file
pub over_whole : (said : MachineSaid) (r : Run (Unit {0})) → whole_of (ran_over (sections_of said) r) ≡ whole_of r
over_whole said (ran (Done x) w ms) = refl
over_whole said (ran (Faulted f) w ms) = refl

-- what is told first, and then how a run ends
told : {steps : List Step} {run : Whole} {status : Status} {old mid new : OutputState} → Sends old mid steps true → Agrees run status mid new → Agrees (told_before steps run) status old new
told s a = record { status = a.status; events = sends_then s a.events }

fault_whole : (run : Run (Unit {0})) (f : FaultData) → outcome_of run ≡ Faulted f → whole_of run ≡ told_before (steps_of (marks_of run)) (faulted_with f)
fault_whole (ran o w ms) f e = ap (λ (p : Outcome (Unit {0})). whole_of (ran p w ms)) e

pub unfinished : (run : Whole) (stop status : Status) (old mid new : OutputState) → is_finished stop ≡ false → Keeps stop status mid new → Sends old mid run.steps false → Agrees run status old new
unfinished run stop status old mid new u k s = record {
  status = λ h. absurd (false≢true (sym (ap is_finished k.ended ∙ u) ∙ h));
  events = subst (λ b. Sends old new run.steps b) (sym (ap is_finished k.ended ∙ u)) (subst (λ o. Sends old o run.steps false) (sym k.same) s);
}

-- the status and the steps of an evaluation after which all is done
pub agrees : (run : Run (Unit {0})) (answer : Result Kept Stop) (status : Status) (old mid : Seen) (new : OutputState) → Evaluated run answer old mid → Settles answer status mid.out new → Agrees (whole_of run) status old.out new
agrees run (Ok kept) status old mid new e s = subst (λ w. Agrees w status old.out new) (sym (ap whole_of e.is)) (told e.written.sent s.agrees)
agrees run (Err (stops.Refused fault)) status old mid new e s = subst (λ w. Agrees w status old.out new) (sym (fault_whole run (fault_view fault) e.is)) (told e.written.sent s.agrees)
agrees run (Err stops.Device) status old mid new e s = unfinished (whole_of run) statuses.Device status old.out mid.out new refl s (begun_steps run old mid e)
agrees run (Err stops.Memory) status old mid new e s = unfinished (whole_of run) statuses.Memory status old.out mid.out new refl s (begun_steps run old mid e)

-- ---- meaning

on_done : (status : Status) {p : Type 0} → (status ≡ statuses.Done → p) → OnDone status p
on_done statuses.Done h = h refl
on_done statuses.Fault h = tt
on_done statuses.Device h = tt
on_done statuses.Memory h = tt

-- a run is done only where its evaluation was, and then its project is that of the evaluation
pub means : {P : Type 0} (run : Run (Unit {0})) (answer : Result Kept Stop) (status : Status) (old mid : Seen) (new : OutputState) → Evaluated run answer old mid → Settles answer status mid.out new
    → OnProject answer Means → (outcome_of run ≡ Done tt → Means (world_after run).facts.project → P) → OnDone status P
means run (Ok kept) status old mid new e s m h = on_done status (λ d. h (ap outcome_of e.is) (subst (λ r. Means (world_after r).facts.project) (sym e.is) m))
means run (Err (stops.Refused fault)) status old mid new e s m h = on_done status (λ d. absurd (let f : statuses.Done ≡ statuses.Fault = sym d ∙ s.agrees.status (ap is_finished d) in cc))
means run (Err stops.Device) status old mid new e s m h = on_done status (λ d. absurd (let f : statuses.Done ≡ statuses.Device = sym d ∙ s.ended in cc))
means run (Err stops.Memory) status old mid new e s m h = on_done status (λ d. absurd (let f : statuses.Done ≡ statuses.Memory = sym d ∙ s.ended in cc))

-- ---- failures: `t` and `o` of the two devices before an evaluation, `u` and those of `mid` after it

-- after an evaluation that came to its end none has failed
pub room_after : (answer : Result Kept Stop) (t o u p : ℕ) → t ≤ u → o ≤ p → u + p ≡ failures_after (t + o) answer → HasRoom o → OnEnd answer (HasRoom p)
room_after (Ok kept) t o u p a b e h = let same : o ≡ p = omega (arith, a, b, e) in subst (λ n. HasRoom n) same h
room_after (Err (stops.Refused fault)) t o u p a b e h = let same : o ≡ p = omega (arith, a, b, e) in subst (λ n. HasRoom n) same h
room_after (Err stops.Device) t o u p a b e h = tt
room_after (Err stops.Memory) t o u p a b e h = tt

kept_failures : (stop status : Status) (n u : ℕ) (mid new : OutputState) → u + mid.failures ≡ n + failed_devices stop → Keeps stop status mid new → u + new.failures ≡ n + failed_devices status
kept_failures stop status n u mid new e k = ap (λ o. u + o.failures) k.same ∙ e ∙ ap (λ s. n + failed_devices s) (sym k.ended)

pub failures_settled : (answer : Result Kept Stop) (status : Status) (t o u : ℕ) (mid new : OutputState) → u + mid.failures ≡ failures_after (t + o) answer → Settles answer status mid new
    → u + new.failures ≡ t + o + failed_devices status
failures_settled (Ok kept) status t o u mid new e s = omega (arith, e, s.failures)
failures_settled (Err (stops.Refused fault)) status t o u mid new e s = omega (arith, e, s.failures)
failures_settled (Err stops.Device) status t o u mid new e s = kept_failures statuses.Device status (t + o) u mid new (omega (arith, e)) s
failures_settled (Err stops.Memory) status t o u mid new e s = kept_failures statuses.Memory status (t + o) u mid new (omega (arith, e)) s

-- what is done after an evaluation takes no failure of the outputs back
pub rises : (answer : Result Kept Stop) (status : Status) (mid new : OutputState) → Settles answer status mid new → mid.failures ≤ new.failures
rises (Ok kept) status mid new s = omega (arith, s.failures)
rises (Err (stops.Refused fault)) status mid new s = omega (arith, s.failures)
rises (Err stops.Device) status mid new s = let same : new.failures ≡ mid.failures = ap (λ (o : OutputState). o.failures) s.same in omega (arith, same)
rises (Err stops.Memory) status mid new s = let same : new.failures ≡ mid.failures = ap (λ (o : OutputState). o.failures) s.same in omega (arith, same)

-- of two numbers in a row none falls
pub rises_then : (n m k : ℕ) → n ≤ m → m ≤ k → n ≤ k
rises_then n m k a b = omega (arith, a, b)
