-- What a run asks.
use Rattle.std.proofs.Common.{◌≡◌, ◌≢◌, ℕ, zero, suc, ◌+◌, ◌≤◌, List, [], Result, Ok, Err, IsErrAnd, Option, refl, sym, ap, ap₂, subst, ◌∙◌, arith}
use Rattle.std.specs.Rc.{rc_value}
use Rattle.support.specs.Faults.{FaultData}
use Rattle.support.specs.declared.faults.fault.Fault.{Fault}
use Rattle.world.specs.Details.{refuse_about}
use Rattle.machine_file.specs.Fault.{MachineFaultData, fault_of_machine_file}
use Rattle.machine_file.specs.Files.{Section}
use Rattle.machine_file.specs.View.{machine_in}
use Rattle.world.specs.Deed.{Files}
use Rattle.world.specs.Gives.{Gives, failures_after}
use Rattle.world.specs.Plan.{carry}
use Rattle.world.specs.Run.{Outcome, Run, Faulted, outcome_of, world_after}
use Rattle.world.specs.Settings.{SettingsData}
use Rattle.world.specs.Start.{first_world}
use Rattle.world.specs.Trace.{Seen}
use Rattle.world.specs.World.{Asked, World}
use Rattle.world.specs.declared.stop.Stop.{Stop}
use Rattle.world.specs.declared.stop.Stop.TheVariants as stops
use Rattle.interp.specs.FirstStatement.{Reads}
use Rattle.interp.specs.Evaluation.{MachineSaid, definitions, evaluated_files, sections_of}
use Rattle.meson.specs.Laws.{asked_by}
use Rattle.meson.specs.Questions.{fault_of, questions_text}
use Rattle.meson.specs.QuestionLines.{Asks, AsksIn, AsksOver, Ended, Is, text_of}
use Rattle.meson.specs.declared.question_run.Asking.{Asking}

-- the lines of all that a run asks
abbrev pub run_text : Files → SettingsData → MachineSaid → List ℕ
run_text files s said = questions_text (sections_of said) (asked_by files s said)

-- no memory was left
pub asks_none : (run : Run (Unit {0})) (text : List ℕ) (result : Result Asking Stop) → IsErrAnd result (λ r. r ≡ stops.Memory) → Asks run text result
asks_none run text (Ok a) is = absurd is
asks_none run text (Err e) is = subst (λ x. Asks run text (Err x)) (sym is) tt

pub fails_none : (result : Result Asking Stop) (t : ℕ) → IsErrAnd result (λ r. r ≡ stops.Memory) → t ≡ failures_after t result
fails_none (Ok a) t is = absurd is
fails_none (Err e) t is = subst (λ x. t ≡ failures_after {B = Asking} t (Err x)) (sym is) refl

-- a machine file with a fault: nothing was asked
faulty_asked : (files : Files) (s : SettingsData) (f : MachineFaultData) → run_text files s (Err f) ≡ []
unfolding evaluated_files refuse_about
faulty_asked files s f = refl

faulty_ended : (files : Files) (s : SettingsData) (f : MachineFaultData) → outcome_of (evaluated_files files s (Err f)) ≡ Faulted (fault_of_machine_file f)
unfolding evaluated_files refuse_about
faulty_ended files s f = refl

unread : {A : Type 0} (view : A → List Section) (files : Files) (s : SettingsData) (said : MachineSaid) (e : Stop) → Reads view said (Err e)
    → Asks (evaluated_files files s said) (run_text files s said) (Err e)
unread view files s (Ok sections) (stops.Refused f) h = absurd h
unread view files s (Err g) (stops.Refused f) h = (faulty_asked files s g, faulty_ended files s g ∙ ap (λ (d : FaultData). Faulted d) (sym h))
unread view files s (Ok sections) stops.Device h = absurd h
unread view files s (Err g) stops.Device h = absurd h
unread view files s said stops.Memory h = tt

pub asks_unread : {A : Type 0} (view : A → List Section) (files : Files) (s : SettingsData) (said : MachineSaid) (e : Stop) (result : Result Asking Stop)
    → IsErrAnd result (λ r. r ≡ e) → Reads view said (Err e) → Asks (evaluated_files files s said) (run_text files s said) result
asks_unread view files s said e (Ok a) is h = absurd is
asks_unread view files s said e (Err d) is h = subst (λ x. Asks (evaluated_files files s said) (run_text files s said) (Err x)) (sym is) (unread view files s said e h)

-- no memory was left
pub over_none : (files : Files) (s : SettingsData) (sections : List Section) (result : Result Asking Stop) → IsErrAnd result (λ r. r ≡ stops.Memory) → AsksOver files s sections result
over_none files s sections result is = asks_none (carry files definitions (first_world s sections)) (text_of sections (carry files definitions (first_world s sections))) result is

-- what was asked over the sections that were read is what the run asks
pub asks_read : {A : Type 0} (view : A → List Section) (files : Files) (s : SettingsData) (said : MachineSaid) (x : A) (result : Result Asking Stop) → Reads view said (Ok x)
    → AsksOver files s (view x) result → Asks (evaluated_files files s said) (run_text files s said) result
unfolding evaluated_files
asks_read view files s (Ok sections) x result read h = subst (λ ss. AsksOver files s ss result) read h
asks_read view files s (Err g) x result read h = absurd read

-- what stands in the store is all that was asked, where the definitions came to their end
pub asks_after : (run : Run (Unit {0})) (ended : Result (Unit {0}) Stop) (w : World) (n : ℕ) (old new : Seen) (result : Result (Option Fault) Stop)
    → Gives {A = Unit {0}} {B = Unit {0}} (λ u. u) run ended w old new → Ended ended n result → AsksIn run w.asked result
asks_after run (Ok u) w n old new (Ok fault) g e = (ap (λ r. (world_after r).asked) (sym g.is), e ∙ ap (λ r. fault_of (outcome_of r)) (sym g.is))
asks_after run (Err (stops.Refused refused)) w n old new (Ok fault) g e = (g.asks, e ∙ ap (λ (o : Outcome (Unit {0})). fault_of o) (sym g.is))
asks_after run (Err stops.Device) w n old new (Ok fault) g e = absurd e
asks_after run (Err stops.Memory) w n old new (Ok fault) g e = absurd e
asks_after run ended w n old new (Err (stops.Refused fault)) g e = absurd e
asks_after run ended w n old new (Err stops.Device) g e = tt
asks_after run ended w n old new (Err stops.Memory) g e = tt

-- what was asked in a world that begins so
pub over_asked : (files : Files) (s : SettingsData) (sections : List Section) (k : World) (a : Asking) → k ≡ first_world s sections
    → AsksIn (carry files definitions k) a.store.asked (Ok a.fault) → machine_in (rc_value a.machine) ≡ sections → AsksOver files s sections (Ok a)
over_asked files s sections k a is asks machine =
    subst (λ w. Is (carry files definitions w) (text_of sections (carry files definitions w)) a) is
    (record { lines = ap₂ (λ ss asked. questions_text ss asked) machine asks.0; fault = asks.1 })

-- or the definitions stopped
pub over_stopped : (files : Files) (s : SettingsData) (sections : List Section) (run : Run (Unit {0})) (asked : List Asked) (e : Stop) (result : Result Asking Stop)
    → IsErrAnd result (λ r. r ≡ e) → AsksIn run asked (Err e) → AsksOver files s sections result
over_stopped files s sections run asked e (Ok a) is h = absurd is
over_stopped files s sections run asked e (Err d) is h = subst (λ x. AsksOver files s sections (Err x)) (sym is) (stopped e h)
  where
    stopped : (e : Stop) → AsksIn run asked (Err e) → AsksOver files s sections (Err e)
    stopped (stops.Refused fault) h = absurd h
    stopped stops.Device h = tt
    stopped stops.Memory h = tt

pub fails_stopped : (e : Stop) (result : Result Asking Stop) (t u : ℕ) → IsErrAnd result (λ r. r ≡ e) → u ≡ failures_after {B = Option Fault} t (Err e) → u ≡ failures_after t result
fails_stopped e (Ok a) t u is h = absurd is
fails_stopped e (Err d) t u is h = subst (λ x. u ≡ failures_after {B = Asking} t (Err x)) (sym is) (h ∙ same e)
  where
    same : (e : Stop) → failures_after {B = Option Fault} t (Err e) ≡ failures_after {B = Asking} t (Err e)
    same (stops.Refused fault) = refl
    same stops.Device = refl
    same stops.Memory = refl

-- ---- the failures of the tree, `t` before and `u` after it

no_memory : (t u n : ℕ) → n ≢ 0 → t ≤ u → u + n ≡ t + 0 + 1 → u ≡ t
no_memory t u zero other a e = absurd (other refl)
no_memory t u (suc n) other a e = omega (arith, a, e)

pub fails_after : (ended : Result (Unit {0}) Stop) (n : ℕ) (result : Result (Option Fault) Stop) (t u : ℕ) → t ≤ u → u + n ≡ failures_after (t + 0) ended → Ended ended n result
    → u ≡ failures_after t result
fails_after (Ok x) n (Ok a) t u le sum e = omega (arith, le, sum)
fails_after (Err (stops.Refused fault)) n (Ok a) t u le sum e = omega (arith, le, sum)
fails_after (Err stops.Device) n (Ok a) t u le sum e = absurd e
fails_after (Err stops.Memory) n (Ok a) t u le sum e = absurd e
fails_after ended n (Err (stops.Refused fault)) t u le sum e = absurd e
fails_after ended n (Err stops.Device) t u le sum e =
    let all : u + n ≡ t + 0 + 1 = subst (λ x. u + n ≡ failures_after (t + 0) x) e.0 sum in omega (arith, all, e.1)
fails_after (Ok x) n (Err stops.Memory) t u le sum e = omega (arith, le, sum)
fails_after (Err (stops.Refused fault)) n (Err stops.Memory) t u le sum e = omega (arith, le, sum)
fails_after (Err stops.Device) n (Err stops.Memory) t u le sum e = no_memory t u n (e refl) le sum
fails_after (Err stops.Memory) n (Err stops.Memory) t u le sum e = omega (arith, le, sum)

-- a stop before any device was asked
pub fails_unread : {A : Type 0} (read : Result A Stop) (e : Stop) (result : Result Asking Stop) (t : ℕ) → IsErrAnd result (λ s. s ≡ e) → ((n : ℕ) → failures_after {B = A} n (Err e) ≡ n) → t ≡ failures_after t result
fails_unread {A} read e (Ok a) t is quiet = absurd is
fails_unread {A} read e (Err d) t is quiet = subst (λ x. t ≡ failures_after {B = Asking} t (Err x)) (sym is) (same A t e quiet)
  where
    same : (A : Type 0) (t : ℕ) (e : Stop) → ((n : ℕ) → failures_after {B = A} n (Err e) ≡ n) → t ≡ failures_after {B = Asking} t (Err e)
    same A t (stops.Refused fault) quiet = refl
    same A t stops.Device quiet = sym (quiet t)
    same A t stops.Memory quiet = refl
