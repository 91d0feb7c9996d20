-- Defines the view of the programs.
use Rattle.build.specs.edge.Texts.{texts}
use Rattle.project_calls.specs.Programs.{ProgramsData}
use Rattle.project_calls.specs.declared.programs.Programs.{Programs}

-- Returns the plain data of the programs.
abbrev pub programs_in : Programs → ProgramsData
programs_in p = record { compiler = texts p.compiler.items; archiver = texts p.archiver.items }
