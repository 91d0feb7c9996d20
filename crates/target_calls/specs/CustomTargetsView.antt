-- Defines the view of names of files.
use Rattle.std.specs.Prelude.{option_map, string_bytes}
use Rattle.build.specs.edge.Texts.{texts}
use Rattle.target_calls.specs.CustomNames.{NamesData}
use Rattle.target_calls.specs.declared.custom.OutputNames.{OutputNames}

-- Returns the plain data of names of files.
abbrev pub names_view : OutputNames → NamesData
names_view n = record { outputs = texts n.outputs.items; depfile = option_map string_bytes n.depfile }
