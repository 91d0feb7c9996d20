-- Relates the code that writes the lines of questions to their definition.
use Rattle.std.specs.Prelude.{◌≡◌, ◌≢◌, ℕ, List, [], ◌++◌, Option, Some, None, option_map, string_bytes, Result, Ok, Err}
use Rattle.std.specs.Rc.{rc_value}
use Rattle.support.specs.View.{fault_view}
use Rattle.support.specs.declared.faults.fault.Fault.{Fault}
use Rattle.ports.specs.Outputs.{OutputState}
use Rattle.backend.specs.declared.run_end.Status.{Status}
use Rattle.machine_file.specs.Files.{Section}
use Rattle.machine_file.specs.View.{machine_in}
use Rattle.world.specs.Deed.{Files}
use Rattle.world.specs.Plan.{carry}
use Rattle.world.specs.Run.{Run, Faulted, outcome_of, world_after}
use Rattle.world.specs.Settings.{SettingsData}
use Rattle.world.specs.Start.{first_world}
use Rattle.world.specs.World.{Asked}
use Rattle.world.specs.declared.stop.Stop.{Stop}
use Rattle.world.specs.declared.stop.Stop.TheVariants as stops
use Rattle.interp.specs.Evaluation.{definitions}
use Rattle.meson.specs.Labels.{Knows}
use Rattle.meson.specs.Questions.{Label, fault_of, first_told, lines_then, questions_text}
use Rattle.meson.specs.Setup.{Concludes, Stops}
use Rattle.meson.specs.declared.question_run.Asking.{Asking}
use Rattle.meson.specs.declared.question_lines.Telling.{Telling}

-- Lines were added after the labels `told`. Whatever is added later, the whole text is then the one that the definition gives.
pub record Adds (old : Telling) (told : List Label) (lines : List (Label × List ℕ)) (new : Telling) : Type 0 where
  pub after : List Label
  pub knows : Knows new.labels after
  pub text : (rest : List (Label × List ℕ))
      → string_bytes new.text ++ first_told after rest ≡ string_bytes old.text ++ first_told told (lines ++ rest)

-- Holds if these lines were added, whatever the labels before are.
abbrev pub Tells : Telling → List (Label × List ℕ) → Telling → Type 0
Tells old lines new = (told : List Label) → Knows old.labels told → Adds old told lines new

-- Returns the lines of the questions of a run, with the answers of its machine file.
abbrev pub asked_text : Asking → List ℕ
asked_text a = questions_text (machine_in (rc_value a.machine)) a.store.asked

-- The asking holds the questions of a run and its fault.
pub record Is (run : Run (Unit {0})) (text : List ℕ) (a : Asking) : Type 0 where
  pub lines : asked_text a ≡ text
  pub fault : option_map fault_view a.fault ≡ fault_of (outcome_of run)

-- Holds if the run was asked for its questions, or if it ended before its first question. If a device failed or no memory was left, nothing
-- is promised.
abbrev pub Asks : Run (Unit {0}) → List ℕ → Result Asking Stop → Type 0
Asks run text (Ok a) = Is run text a
Asks run text (Err (stops.Refused fault)) = (text ≡ []) × (outcome_of run ≡ Faulted (fault_view fault))
Asks run text (Err stops.Device) = Unit {0}
Asks run text (Err stops.Memory) = Unit {0}

-- Returns the lines of all that a run asks, with the answers of these sections.
abbrev pub text_of : List Section → Run (Unit {0}) → List ℕ
text_of sections run = questions_text sections (world_after run).asked

-- Holds if the definitions of these files, over a machine file with these sections, were asked.
abbrev pub AsksOver : Files → SettingsData → List Section → Result Asking Stop → Type 0
AsksOver files s sections result =
    Asks (carry files definitions (first_world s sections)) (text_of sections (carry files definitions (first_world s sections))) result

-- Holds if these are the questions of a run and its fault. If a device failed or no memory was left, nothing is promised.
abbrev pub AsksIn : Run (Unit {0}) → List Asked → Result (Option Fault) Stop → Type 0
AsksIn run asked (Ok fault) = (asked ≡ (world_after run).asked) × (option_map fault_view fault ≡ fault_of (outcome_of run))
AsksIn run asked (Err (stops.Refused fault)) = ⊥
AsksIn run asked (Err stops.Device) = Unit {0}
AsksIn run asked (Err stops.Memory) = Unit {0}

-- Relates how the definitions ended to their fault.
abbrev pub EndedWith : Result (Unit {0}) Stop → Option Fault → Type 0
EndedWith (Ok u) fault = option_map fault_view fault ≡ None
EndedWith (Err (stops.Refused refused)) fault = option_map fault_view fault ≡ Some (fault_view refused)
EndedWith (Err stops.Device) fault = ⊥
EndedWith (Err stops.Memory) fault = ⊥

-- Relates how the definitions ended, over outputs with this count of failures, to the result. If the outputs failed, no memory was left.
abbrev pub Ended : Result (Unit {0}) Stop → ℕ → Result (Option Fault) Stop → Type 0
Ended ended failures (Ok fault) = EndedWith ended fault
Ended ended failures (Err (stops.Refused fault)) = ⊥
Ended ended failures (Err stops.Device) = (ended ≡ Err stops.Device) × (failures ≡ 0)
Ended ended failures (Err stops.Memory) = ended ≡ Err stops.Device → failures ≢ 0

-- Relates the result of asking to the status and the outputs after it.
abbrev pub Told : Result Asking Stop → Status → OutputState → OutputState → Type 0
Told (Ok a) status old new = Concludes (lines_then (asked_text a) (option_map fault_view a.fault)) status old new
Told (Err stop) status old new = Stops stop status old new
