-- Defines inputs, without their place in memory.
use Rattle.std.specs.Prelude.{string_bytes}
use Rattle.build.specs.Sources.{InputData}
use Rattle.build.specs.declared.sources.Input.{Input}

-- Returns an input of the code as plain data, with its path and its name as bytes.
abbrev pub input_view : Input → InputData
input_view i = record { path = string_bytes i.path; name = string_bytes i.name }
