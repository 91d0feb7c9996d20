-- Defines a fault of an option file, without its place in memory.
use Rattle.std.specs.Prelude.{string_bytes}
use Rattle.options.specs.option_file.Fault.{DeclareFaultData}
use Rattle.options.specs.declared.option_file.fault.DeclareFault.{DeclareFault}

-- Returns the fault of an option file as plain data, with its details as bytes.
abbrev pub fault_in : DeclareFault → DeclareFaultData
fault_in f = record { refusal = f.refusal; line = f.line; detail = string_bytes f.detail }
