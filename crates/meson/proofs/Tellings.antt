-- How what a run asks is told.
use Rattle.std.proofs.Common.{◌≡◌, ℕ, ◌+◌, List, [], Some, None, Result, Ok, Err, refl, sym, ap, subst, ◌∙◌, arith}
use Rattle.std.specs.Prelude.{option_map}
use Rattle.std.proofs.lemmas.Bool.{false≢true}
use Rattle.ports.specs.Endings.{HasRoom}
use Rattle.ports.specs.Outputs.{OutputState, Step, Writes, logs}
use Rattle.ports.proofs.Sending.{sends_none, sends_nothing, sends_stop, sends_then}
use Rattle.support.specs.Faults.{FaultData}
use Rattle.support.specs.View.{fault_view}
use Rattle.backend.specs.BuildFile.{ending_of}
use Rattle.backend.specs.Concluding.{Agrees, Whole, failed_devices, faulted_with, told_before}
use Rattle.backend.specs.declared.run_end.Status.{Status}
use Rattle.backend.specs.declared.stop.WriteStop.{WriteStop}
use Rattle.backend.specs.declared.stop.WriteStop.TheVariants as writes
use Rattle.backend.specs.declared.run_end.Status.TheVariants as statuses
use Rattle.world.specs.Gives.{failures_after}
use Rattle.world.specs.Run.{Run, outcome_of}
use Rattle.world.specs.declared.stop.Stop.{Stop}
use Rattle.world.specs.declared.stop.Stop.TheVariants as stops
use Rattle.meson.specs.Questions.{ending_with, fault_of, lines_then}
use Rattle.meson.specs.Setup.{Concludes, FailsOnce, Keeps, OnFault}
use Rattle.meson.specs.QuestionLines.{Asks, Told}
use Rattle.meson.specs.declared.question_run.Asking.{Asking}
use Rattle.meson.proofs.Runs.{unfinished}

pub ends_none : (old : OutputState) → Concludes (ending_with None) statuses.Done old old
ends_none old = record { agrees = record { status = λ h. refl; events = sends_nothing old }; failures = omega arith }

-- the lines were taken, and then the ending
pub told_lines : (run : List Step) (end : Whole) (status : Status) (old mid new : OutputState) (r : Result (Unit {0}) WriteStop) → r ≡ Ok tt → Writes old run (ending_of r) mid
    → Concludes end status mid new → Concludes (told_before run end) status old new
told_lines run end status old mid new r is w c =
    let whole = subst (λ x. Writes old run (ending_of x) mid) is w in
    record {
      agrees = record { status = c.agrees.status; events = sends_then whole.sends c.agrees.events };
      failures = c.failures ∙ ap (λ n. n + failed_devices status) whole.failures;
    }

-- or the log failed
pub stopped_lines : (run : List Step) (end : Whole) (old new : OutputState) (r : Result (Unit {0}) WriteStop) → r ≡ Err writes.Device → Writes old run (ending_of r) new
    → Concludes (told_before run end) statuses.Device old new
stopped_lines run end old new r is w =
    let failed = subst (λ x. Writes old run (ending_of x) new) is w in
    record {
      agrees = record { status = λ h. absurd (false≢true h); events = sends_stop end.steps failed.sends };
      failures = failed.failures;
    }

-- or no memory was left
pub short_lines : (run : List Step) (end : Whole) (old new : OutputState) (r : Result (Unit {0}) WriteStop) → r ≡ Err writes.Memory → Writes old run (ending_of r) new
    → Concludes (told_before run end) statuses.Memory old new
short_lines run end old new r is w =
    let short = subst (λ x. Writes old run (ending_of x) new) is w in
    record {
      agrees = record { status = λ h. absurd (false≢true h); events = sends_stop end.steps short.sends };
      failures = let same : new.failures ≡ old.failures = short.failures in omega (arith, same);
    }

pub room_then : (run : List Step) (old mid : OutputState) (r : Result (Unit {0}) WriteStop) → r ≡ Ok tt → Writes old run (ending_of r) mid → HasRoom old.failures → HasRoom mid.failures
room_then run old mid r is w h = subst (λ n. HasRoom n) (sym (subst (λ x. Writes old run (ending_of x) mid) is w).failures) h

-- what holds at any stop holds at a fault
pub on_fault : (stop : Stop) {p : Type 0} → p → OnFault stop p
on_fault (stops.Refused fault) h = h
on_fault stops.Device h = tt
on_fault stops.Memory h = tt

-- ---- a run is asked, and that is told

nothing_then : (f : FaultData) → faulted_with f ≡ lines_then [] (Some f)
unfolding logs
nothing_then f = refl

pub agrees_asked : (run : Run (Unit {0})) (text : List ℕ) (answer : Result Asking Stop) (status : Status) (old new : OutputState) → Asks run text answer → Told answer status old new
    → Agrees (lines_then text (fault_of (outcome_of run))) status old new
agrees_asked run text (Ok a) status old new asks is =
    subst (λ f. Agrees (lines_then text f) status old new) asks.fault
    (subst (λ t. Agrees (lines_then t (option_map fault_view a.fault)) status old new) asks.lines is.agrees)
agrees_asked run text (Err (stops.Refused fault)) status old new asks is =
    subst (λ o. Agrees (lines_then text (fault_of o)) status old new) (sym asks.1)
    (subst (λ t. Agrees (lines_then t (Some (fault_view fault))) status old new) (sym asks.0)
    (subst (λ w. Agrees w status old new) (nothing_then (fault_view fault)) is.agrees))
agrees_asked run text (Err stops.Device) status old new asks is =
    let whole = lines_then text (fault_of (outcome_of run)) in
    unfinished whole statuses.Device status old old new refl is (sends_none old whole.steps)
agrees_asked run text (Err stops.Memory) status old new asks is =
    let whole = lines_then text (fault_of (outcome_of run)) in
    unfinished whole statuses.Memory status old old new refl is (sends_none old whole.steps)

-- the devices: the tree's count of failures before and after, and the outputs
pub kept_fails : (stop status : Status) (t u : ℕ) (old new : OutputState) → u ≡ t + failed_devices stop → Keeps stop status old new → FailsOnce status t old.failures u new.failures
kept_fails stop status t u old new e k =
    let same : new.failures ≡ old.failures = ap (λ (o : OutputState). o.failures) k.same in
    let by : failed_devices status ≡ failed_devices stop = ap failed_devices k.ended in
    record { of_tree = omega (arith, e); of_out = omega (arith, same); sum = omega (arith, e, same, by) }

pub fails_asked : (answer : Result Asking Stop) (status : Status) (t u : ℕ) (old new : OutputState) → u ≡ failures_after t answer → Told answer status old new
    → FailsOnce status t old.failures u new.failures
fails_asked (Ok a) status t u old new e is = record { of_tree = omega (arith, e); of_out = omega (arith, is.failures); sum = omega (arith, e, is.failures) }
fails_asked (Err (stops.Refused fault)) status t u old new e is = record { of_tree = omega (arith, e); of_out = omega (arith, is.failures); sum = omega (arith, e, is.failures) }
fails_asked (Err stops.Device) status t u old new e is = kept_fails statuses.Device status t u old new e is
fails_asked (Err stops.Memory) status t u old new e is = kept_fails statuses.Memory status t u old new (omega (arith, e)) is
