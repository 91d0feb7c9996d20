-- Defines the result of each task.
use Rattle.backend.specs.Concluding.{Whole}
use Rattle.command_line.specs.declared.line.Task.{Task}
use Rattle.command_line.specs.declared.line.Task.TheVariants.{Setup, Questions, Fault}
use Rattle.world.specs.Deed.{Files}
use Rattle.world.specs.Settings.{SettingsData}
use Rattle.interp.specs.Evaluation.{MachineSaid}
use Rattle.meson.specs.FaultRun.{fault_told}
use Rattle.meson.specs.Questions.{questions_of}
use Rattle.meson.specs.Setup.{run_of}

-- Returns the run of these files, settings and reading of a machine file for `setup`, `questions` or `fault`.
abbrev pub run_by : Task → Files → SettingsData → MachineSaid → Whole
run_by Setup files s said = run_of files s said
run_by Questions files s said = questions_of files s said
run_by Fault files s said = fault_told files s said
