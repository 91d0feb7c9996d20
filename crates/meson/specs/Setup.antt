-- Defines one run of `setup`: what the outputs are asked to take, and how the run ends.
use Rattle.std.specs.Prelude.{◌≡◌, ◌≤◌, ℕ, ◌+◌, Result, Ok, Err}
use Rattle.ports.specs.Outputs.{OutputState}
use Rattle.support.specs.View.{fault_view}
use Rattle.build.specs.project.World.{WorldData}
use Rattle.backend.specs.Concluding.{Agrees, Whole, done_with, failed_devices, faulted_with, told_before}
use Rattle.backend.specs.declared.run_end.Status.{Status}
use Rattle.backend.specs.declared.run_end.Status.TheVariants as statuses
use Rattle.world.specs.Deed.{Files}
use Rattle.world.specs.Run.{Run, ran, Done, Faulted, world_after}
use Rattle.world.specs.Settings.{SettingsData}
use Rattle.world.specs.Store.{Kept}
use Rattle.world.specs.Trace.{steps_of}
use Rattle.world.specs.declared.stop.Stop.{Stop}
use Rattle.world.specs.declared.stop.Stop.TheVariants as stops
use Rattle.interp.specs.Evaluation.{MachineSaid, evaluated_files}

-- Returns what the evaluation wrote, followed by all outputs of the project on success, or else by the line of its fault.
abbrev pub whole_of : Run (Unit {0}) → Whole
whole_of (ran (Done x) w ms) = told_before (steps_of ms) (done_with w.facts.project)
whole_of (ran (Faulted f) w ms) = told_before (steps_of ms) (faulted_with f)

-- Returns the run of these files, settings and reading of a machine file.
abbrev pub run_of : Files → SettingsData → MachineSaid → Whole
run_of files s said = whole_of (evaluated_files files s said)

-- Returns the project that the definitions of these files describe.
abbrev pub project_of : Files → SettingsData → MachineSaid → WorldData
project_of files s said = (world_after (evaluated_files files s said)).facts.project

-- Holds if all outputs of the run are written and `p` holds. Other statuses promise nothing.
abbrev pub OnDone : Status → Type 0 → Type 0
OnDone statuses.Done p = p
OnDone statuses.Fault p = Unit {0}
OnDone statuses.Device p = Unit {0}
OnDone statuses.Memory p = Unit {0}

-- Holds if the evaluation succeeded and `p` holds of its project. Other results promise nothing.
abbrev pub OnProject : Result Kept Stop → (WorldData → Type 0) → Type 0
OnProject (Ok kept) p = p kept.project
OnProject (Err stop) p = Unit {0}

-- Holds if the run stopped at a fault and `p` holds. Other stops promise nothing.
abbrev pub OnFault : Stop → Type 0 → Type 0
OnFault (stops.Refused fault) p = p
OnFault stops.Device p = Unit {0}
OnFault stops.Memory p = Unit {0}

-- Holds if the evaluation came to its end and `p` holds. Other stops promise nothing.
abbrev pub OnEnd : {A : Type 0} → Result A Stop → Type 0 → Type 0
OnEnd (Ok x) p = p
OnEnd (Err stop) p = OnFault stop p

-- The outputs were asked to take the steps of the run. The run ended with this status, and the outputs failed once if the status is
-- `Device`.
pub record Concludes (run : Whole) (status : Status) (old new : OutputState) : Type 0 where
  pub agrees : Agrees run status old new
  pub failures : new.failures ≡ old.failures + failed_devices status

-- The outputs were asked for nothing.
pub record Keeps (stopped status : Status) (old new : OutputState) : Type 0 where
  pub ended : status ≡ stopped
  pub same : new ≡ old

-- Holds of the status and the outputs after a run that stopped.
abbrev pub Stops : Stop → Status → OutputState → OutputState → Type 0
Stops (stops.Refused fault) status old new = Concludes (faulted_with (fault_view fault)) status old new
Stops stops.Device status old new = Keeps statuses.Device status old new
Stops stops.Memory status old new = Keeps statuses.Memory status old new

-- Holds of the status and the outputs after an evaluation with this result.
abbrev pub Settles : Result Kept Stop → Status → OutputState → OutputState → Type 0
Settles (Ok kept) status old new = Concludes (done_with kept.project) status old new
Settles (Err stop) status old new = Stops stop status old new

-- Relates the counts of two devices' failures, before and after: neither falls, and together they rise by one if the status is `Device`. So
-- exactly one of them has failed once if the status is `Device`, and else none has.
pub record FailsOnce (status : Status) (tree out tree_after out_after : ℕ) : Type 0 where
  pub of_tree : tree ≤ tree_after
  pub of_out : out ≤ out_after
  pub sum : tree_after + out_after ≡ tree + out + failed_devices status
