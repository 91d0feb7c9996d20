-- Defines a fault of an option file, as a run reports it.
use Rattle.std.specs.Prelude.{ℕ, List}
use Rattle.support.specs.Faults.{FaultData}
use Rattle.support.specs.declared.faults.refusal.Refusal.{Refusal}

-- A fault of an option file: the refusal, its line, from 1, and its details.
pub record DeclareFaultData : Type 0 where
  pub refusal : Refusal
  pub line : ℕ
  pub detail : List ℕ

-- Returns the fault as a run reports it, given the path of the option file.
abbrev pub told_in : List ℕ → DeclareFaultData → FaultData
told_in path f = record { file = path; line = f.line; refusal = f.refusal; detail = f.detail }
