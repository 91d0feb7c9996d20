-- Defines what a project holds, without its place in memory.
use Rattle.std.specs.Prelude.{List, map, string_bytes}
use Rattle.build.specs.edge.Texts.{Path, texts}
use Rattle.build.specs.Data.{SurroundingsData}
use Rattle.build.specs.Libraries.{DeclaredTargetData}
use Rattle.build.specs.project.World.{WorldData, AnswerData, InstallData, TestData}
use Rattle.build.specs.declared.project.records.Answer.{Answer}
use Rattle.build.specs.declared.project.records.Install.{Install}
use Rattle.build.specs.declared.project.records.Test.{Test}

-- Returns the result of a call of `dependency` as plain data, with its name and version as bytes.
abbrev pub answer_view : Answer → AnswerData
answer_view a = record { name = string_bytes a.name; version = string_bytes a.version; is_found = a.is_found }

-- Returns an installed file of the code as plain data, with both paths as bytes.
abbrev pub install_view : Install → InstallData
install_view i = record { source = string_bytes i.source; destination = string_bytes i.destination }

-- Returns a test of the code as plain data, with each string as its bytes. The timeout is in seconds.
abbrev pub test_view : Test → TestData
test_view t = record {
  name = string_bytes t.name;
  command = texts t.command.items;
  environment = texts t.environment.items;
  suites = texts t.suites.items;
  should_fail = t.should_fail;
  timeout = t.timeout;
}

-- The paths that were looked at, and the notes.
pub record NotesData : Type 0 where
  pub present : List Path
  pub absent : List Path
  pub dependencies : List AnswerData
  pub installs : List InstallData
  pub tests : List TestData

-- Returns the project with these parts as plain data. It keeps only the targets: their libraries and paths follow from these.
abbrev pub world_of : SurroundingsData → List DeclaredTargetData → (outputs : List Path) → NotesData → WorldData
world_of s ls outputs notes = record {
  surroundings = s;
  targets = map (λ l. l.target) ls;
  outputs = outputs;
  present = notes.present;
  absent = notes.absent;
  dependencies = notes.dependencies;
  installs = notes.installs;
  tests = notes.tests;
}
