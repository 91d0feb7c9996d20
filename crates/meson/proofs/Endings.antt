-- How the fault of a run is told, and what it is about.
use Rattle.std.proofs.Common.{◌≡◌, ◌≢◌, ℕ, ◌+◌, List, None, Result, Ok, Err, refl, sym, ap, subst, arith}
use Rattle.std.proofs.lemmas.Bool.{false≢true}
use Rattle.ports.specs.Endings.{HasRoom, ending_of_result}
use Rattle.ports.specs.Outputs.{OutputState, Writes}
use Rattle.ports.specs.declared.fault.DeviceFault.{DeviceFault}
use Rattle.ports.proofs.Sending.{sends_none, sends_nothing, sends_stop, sends_then}
use Rattle.support.specs.Faults.{FaultData}
use Rattle.backend.specs.Concluding.{Agrees, failed_devices, faulted_with}
use Rattle.backend.specs.declared.run_end.Status.{Status}
use Rattle.backend.specs.declared.run_end.Status.TheVariants as statuses
use Rattle.world.specs.Gives.{failures_after}
use Rattle.world.specs.Run.{Run, outcome_of}
use Rattle.world.specs.declared.stop.Stop.{Stop}
use Rattle.world.specs.declared.stop.Stop.TheVariants as stops
use Rattle.meson.specs.FaultRun.{TellsFault, detail_told, ending_told, told_whole}
use Rattle.meson.specs.Questions.{fault_of}
use Rattle.meson.specs.Setup.{Concludes, FailsOnce}
use Rattle.meson.specs.QuestionLines.{Asks}
use Rattle.meson.specs.declared.question_run.Asking.{Asking}
use Rattle.meson.proofs.Runs.{unfinished}
use Rattle.meson.proofs.Tellings.{kept_fails}

-- the log took the detail
pub logged : (f : FaultData) (old new : OutputState) (r : Result (Unit {0}) DeviceFault) (u : Unit {0}) → r ≡ Ok u → Writes old (detail_told f).steps (ending_of_result r) new
    → Concludes (detail_told f) statuses.Fault old new
logged f old new r u is w =
    let whole = subst (λ x. Writes old (detail_told f).steps (ending_of_result x) new) is w in
    record { agrees = record { status = λ h. refl; events = whole.sends }; failures = omega (arith, whole.failures) }

-- or it failed
pub unlogged : (f : FaultData) (old new : OutputState) (r : Result (Unit {0}) DeviceFault) (e : DeviceFault) → r ≡ Err e → Writes old (detail_told f).steps (ending_of_result r) new
    → Concludes (detail_told f) statuses.Device old new
unlogged f old new r e is w =
    let failed = subst (λ x. Writes old (detail_told f).steps (ending_of_result x) new) is w in
    record { agrees = record { status = λ h. absurd (false≢true h); events = failed.sends }; failures = failed.failures }

-- the line of a fault was told, and behind it the detail
pub told_both : (f : FaultData) (first status : Status) (old mid new : OutputState) → first ≡ statuses.Fault → Agrees (faulted_with f) first old mid
    → mid.failures ≡ old.failures + failed_devices first → Concludes (detail_told f) status mid new → Concludes (told_whole f) status old new
told_both f first status old mid new is a e c =
    let line : Agrees (faulted_with f) statuses.Fault old mid = subst (λ s. Agrees (faulted_with f) s old mid) is a in
    let none : failed_devices first ≡ 0 = ap failed_devices is in
    record { agrees = record { status = c.agrees.status; events = sends_then line.events c.agrees.events }; failures = omega (arith, e, none, c.failures) }

pub room_behind : (first : Status) (old mid : OutputState) → first ≡ statuses.Fault → mid.failures ≡ old.failures + failed_devices first → HasRoom old.failures → HasRoom mid.failures
room_behind first old mid is e h =
    let none : failed_devices first ≡ 0 = ap failed_devices is in
    let same : mid.failures ≡ old.failures = omega (arith, e, none) in
    subst (λ n. HasRoom n) (sym same) h

-- or the line wasn't told whole
pub told_part : (f : FaultData) (status : Status) (old new : OutputState) → status ≢ statuses.Fault → Agrees (faulted_with f) status old new
    → new.failures ≡ old.failures + failed_devices status → Concludes (told_whole f) status old new
told_part f statuses.Done old new other a e = absurd (let is : statuses.Done ≡ statuses.Fault = a.status refl in cc)
told_part f statuses.Fault old new other a e = absurd (other refl)
told_part f statuses.Device old new other a e = record { agrees = record { status = λ h. absurd (false≢true h); events = sends_stop (detail_told f).steps a.events }; failures = e }
told_part f statuses.Memory old new other a e = record { agrees = record { status = λ h. absurd (false≢true h); events = sends_stop (detail_told f).steps a.events }; failures = e }

pub nothing_told : (old : OutputState) → Concludes (ending_told None) statuses.Done old old
nothing_told old = record { agrees = record { status = λ h. refl; events = sends_nothing old }; failures = omega arith }

-- ---- after a run

pub agrees_told : (run : Run (Unit {0})) (text : List ℕ) (answer : Result Asking Stop) (status : Status) (old new : OutputState) → Asks run text answer → TellsFault answer status old new
    → Agrees (ending_told (fault_of (outcome_of run))) status old new
agrees_told run text (Ok a) status old new asks is = subst (λ f. Agrees (ending_told f) status old new) asks.fault is.agrees
agrees_told run text (Err (stops.Refused fault)) status old new asks is =
    subst (λ o. Agrees (ending_told (fault_of o)) status old new) (sym asks.1) is.agrees
agrees_told run text (Err stops.Device) status old new asks is =
    let whole = ending_told (fault_of (outcome_of run)) in
    unfinished whole statuses.Device status old old new refl is (sends_none old whole.steps)
agrees_told run text (Err stops.Memory) status old new asks is =
    let whole = ending_told (fault_of (outcome_of run)) in
    unfinished whole statuses.Memory status old old new refl is (sends_none old whole.steps)

pub fails_told : (answer : Result Asking Stop) (status : Status) (t u : ℕ) (old new : OutputState) → u ≡ failures_after t answer → TellsFault answer status old new
    → FailsOnce status t old.failures u new.failures
fails_told (Ok a) status t u old new e is = record { of_tree = omega (arith, e); of_out = omega (arith, is.failures); sum = omega (arith, e, is.failures) }
fails_told (Err (stops.Refused fault)) status t u old new e is = record { of_tree = omega (arith, e); of_out = omega (arith, is.failures); sum = omega (arith, e, is.failures) }
fails_told (Err stops.Device) status t u old new e is = kept_fails statuses.Device status t u old new e is
fails_told (Err stops.Memory) status t u old new e is = kept_fails statuses.Memory status t u old new (omega (arith, e)) is
