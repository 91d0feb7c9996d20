-- Defines a fault of a machine file, and how a run reports it.
use Rattle.std.specs.Prelude.{ℕ, List, codes}
use Rattle.support.specs.Faults.{FaultData}
use Rattle.support.specs.declared.faults.refusal.Refusal.{Refusal}
use Rattle.support.specs.declared.faults.refusal.Refusal.TheVariants as refusals

-- A fault of a machine file: the refusal, its line, from 1, and its details.
pub record MachineFaultData : Type 0 where
  pub refusal : Refusal
  pub line : ℕ
  pub detail : List ℕ

-- Returns the fault of a line that is not allowed where it is.
abbrev pub bad_line : ℕ → List ℕ → MachineFaultData
bad_line line detail = record { refusal = refusals.MachineFile; line = line; detail = detail }

-- Returns the fault as a run reports it. Its file is `<machine file>`.
abbrev pub fault_of_machine_file : MachineFaultData → FaultData
fault_of_machine_file f = record { file = codes "<machine file>"; line = f.line; refusal = f.refusal; detail = f.detail }
