-- Defines the paths that were looked at and the notes, without their place in memory.
use Rattle.std.specs.Prelude.{map}
use Rattle.build.specs.edge.Texts.{texts}
use Rattle.build.specs.project.View.{NotesData, answer_view, install_view, test_view}
use Rattle.build.specs.declared.project.project.Notes.{Notes}

-- Returns the notes of the code as plain data. Each set of paths becomes a list, in the order in which they were noted.
abbrev pub notes_view : Notes → NotesData
notes_view n = record {
  present = texts n.present.keys;
  absent = texts n.absent.keys;
  dependencies = map answer_view n.dependencies.items;
  installs = map install_view n.installs.items;
  tests = map test_view n.tests.items;
}
