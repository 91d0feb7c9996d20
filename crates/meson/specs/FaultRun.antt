-- Defines what `meson fault` prints: the fault in which a run ends, and its details.
use Rattle.std.specs.Prelude.{◌++◌, [], codes, option_map, Option, Some, None, Result, Ok, Err}
use Rattle.ports.specs.Outputs.{OutputState, faults, logs}
use Rattle.support.specs.Faults.{FaultData, fault_line}
use Rattle.support.specs.View.{fault_view}
use Rattle.backend.specs.Concluding.{Whole, told_before}
use Rattle.backend.specs.declared.run_end.Status.{Status}
use Rattle.backend.specs.declared.run_end.Status.TheVariants as statuses
use Rattle.world.specs.Deed.{Files}
use Rattle.world.specs.Run.{outcome_of}
use Rattle.world.specs.Settings.{SettingsData}
use Rattle.world.specs.declared.stop.Stop.{Stop}
use Rattle.world.specs.declared.stop.Stop.TheVariants as stops
use Rattle.interp.specs.Evaluation.{MachineSaid, evaluated_files}
use Rattle.meson.specs.Questions.{fault_of}
use Rattle.meson.specs.Setup.{Concludes, Keeps}
use Rattle.meson.specs.declared.question_run.Asking.{Asking}

-- Returns the details of a fault, as a line of the log.
abbrev pub detail_told : FaultData → Whole
detail_told f = record { steps = logs f.detail ++ logs (codes "\n"); status = statuses.Fault }

-- Returns the line of a fault, followed by its details.
abbrev pub told_whole : FaultData → Whole
told_whole f = told_before (faults (fault_line f)) (detail_told f)

-- Returns the run that prints the fault, or one that writes nothing and ends with the status `Done` if there is no fault.
abbrev pub ending_told : Option FaultData → Whole
ending_told None = record { steps = []; status = statuses.Done }
ending_told (Some f) = told_whole f

-- Returns what `meson fault` prints for these files, settings and reading of a machine file: the fault's line, and its details in the log.
-- Nothing else is written.
abbrev pub fault_told : Files → SettingsData → MachineSaid → Whole
fault_told files s said = ending_told (fault_of (outcome_of (evaluated_files files s said)))

-- ---- the same for the values of the code

-- Holds if the fault of this stop, if it is one, was written and the run ended with this status.
abbrev pub TellsStop : Stop → Status → OutputState → OutputState → Type 0
TellsStop (stops.Refused fault) status old new = Concludes (told_whole (fault_view fault)) status old new
TellsStop stops.Device status old new = Keeps statuses.Device status old new
TellsStop stops.Memory status old new = Keeps statuses.Memory status old new

-- Holds if the fault of a run, if it has one, was written and the run ended with this status.
abbrev pub TellsFault : Result Asking Stop → Status → OutputState → OutputState → Type 0
TellsFault (Ok a) status old new = Concludes (ending_told (option_map fault_view a.fault)) status old new
TellsFault (Err stop) status old new = TellsStop stop status old new
