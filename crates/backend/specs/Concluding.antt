-- Defines how a run ends: what the outputs are asked to take at its end, and its status.
use Rattle.std.specs.Prelude.{◌≡◌, ℕ, Bool, true, false, IsTrue, List, ◌++◌, Result, Ok, Err}
use Rattle.ports.specs.Outputs.{OutputState, Step, Sends, faults}
use Rattle.ports.specs.declared.fault.DeviceFault.{DeviceFault}
use Rattle.support.specs.Faults.{FaultData, fault_line}
use Rattle.build.specs.project.World.{WorldData}
use Rattle.backend.specs.BuildFile.{build_steps}
use Rattle.backend.specs.declared.stop.WriteStop.{WriteStop}
use Rattle.backend.specs.declared.stop.WriteStop.TheVariants as stops
use Rattle.backend.specs.Document.{document_steps}
use Rattle.backend.specs.declared.run_end.Status.{Status}
use Rattle.backend.specs.declared.run_end.Status.TheVariants as statuses

-- A whole run: the steps that outputs are asked to take, in order, and the status with which the run ends.
pub record Whole : Type 0 where
  pub steps : List Step
  pub status : Status

-- Returns the outputs of a project: `build.ninja`, then the introspection document.
abbrev pub outputs_steps : WorldData → List Step
outputs_steps w = build_steps w ++ document_steps w

-- Returns the run that writes all outputs.
abbrev pub done_with : WorldData → Whole
done_with w = record { steps = outputs_steps w; status = statuses.Done }

-- Returns the run that writes the line of a fault.
abbrev pub faulted_with : FaultData → Whole
faulted_with f = record { steps = faults (fault_line f); status = statuses.Fault }

-- Returns the run after these earlier steps.
abbrev pub told_before : List Step → Whole → Whole
told_before told run = record { steps = told ++ run.steps; status = run.status }

-- Returns the exit status of a program that ends with this status.
abbrev pub exit_status : Status → ℕ
exit_status statuses.Done = 0
exit_status statuses.Fault = 1
exit_status statuses.Device = 2
exit_status statuses.Memory = 3

-- Returns whether a run with this status comes to its end.
abbrev pub is_finished : Status → Bool
is_finished statuses.Done = true
is_finished statuses.Fault = true
is_finished statuses.Device = false
is_finished statuses.Memory = false

-- The status is the run's, and the outputs took the whole run. Or they took a beginning.
pub record Agrees (run : Whole) (ended : Status) (old new : OutputState) : Type 0 where
  pub status : IsTrue (is_finished ended) → ended ≡ run.status
  pub events : Sends old new run.steps (is_finished ended)

-- Returns how many device failures the status means.
abbrev pub failed_devices : Status → ℕ
failed_devices statuses.Done = 0
failed_devices statuses.Fault = 0
failed_devices statuses.Device = 1
failed_devices statuses.Memory = 0

-- Returns the status after writing the outputs.
abbrev pub status_of_outputs : Result (Unit {0}) WriteStop → Status
status_of_outputs (Ok x) = statuses.Done
status_of_outputs (Err stops.Device) = statuses.Device
status_of_outputs (Err stops.Memory) = statuses.Memory

-- Returns the status after writing the line of a fault.
abbrev pub status_of_fault : Result (Unit {0}) DeviceFault → Status
status_of_fault (Ok x) = statuses.Fault
status_of_fault (Err e) = statuses.Device
