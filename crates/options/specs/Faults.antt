-- Defines the fault of an option's value, as a run reports it.
use Rattle.std.specs.Prelude.{ℕ, List, codes}
use Rattle.support.specs.Faults.{FaultData}
use Rattle.support.specs.declared.faults.refusal.Refusal.{Refusal}
use Rattle.options.specs.declared.fault.Origin.{Origin}
use Rattle.options.specs.declared.fault.Origin.TheVariants.{Declared, Project, MachineFile, CommandLine}

-- A place, what is refused there, and the details.
pub record OptionFaultData : Type 0 where
  pub place : Origin
  pub refusal : Refusal
  pub detail : List ℕ

-- Returns the file of a place, given the path of the option file.
abbrev pub file_of : List ℕ → Origin → List ℕ
file_of path (Declared line) = path
file_of path Project = codes "meson.build"
file_of path (MachineFile line) = codes "<machine file>"
file_of path (CommandLine number) = codes "<command line>"

-- Returns the line of a place, given the line of the call of `project`. For a word it is the word's number.
abbrev pub line_of : ℕ → Origin → ℕ
line_of call (Declared line) = line
line_of call Project = call
line_of call (MachineFile line) = line
line_of call (CommandLine number) = number

-- Returns the fault as a run reports it, given the path of the option file and the line of the call of `project`.
abbrev pub told_in : List ℕ → ℕ → OptionFaultData → FaultData
told_in path call f =
    record { file = file_of path f.place; line = line_of call f.place; refusal = f.refusal; detail = f.detail }
