-- Defines the view of a fault.
use Rattle.std.specs.Prelude.{string_bytes}
use Rattle.support.specs.declared.faults.fault.Fault.{Fault}
use Rattle.support.specs.declared.faults.fault.Told.{Told}
use Rattle.support.specs.Faults.{FaultData}

-- Returns the data of a fault: its file, line, refusal and detail. Strings are seen as their bytes.
abbrev pub told_view : Told → FaultData
told_view t = record { file = string_bytes t.file; line = t.line; refusal = t.refusal; detail = string_bytes t.detail }

-- Returns the data of a fault: its file, line, refusal and detail. Its box is left out.
abbrev pub fault_view : Fault → FaultData
fault_view f = told_view f.told.value
