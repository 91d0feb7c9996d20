-- States what holds of every run.
use Rattle.std.specs.Prelude.{◌≡◌, ℕ, true, List, ◌++◌, Option, filter, map}
use Rattle.std.specs.List.{list_all}
use Rattle.build.specs.edge.Paths.{source_path}
use Rattle.build.specs.edge.Texts.{Path, first_kept}
use Rattle.backend.specs.FileEdges.{are_made}
use Rattle.backend.specs.Means.{Means, edges_read}
use Rattle.world.specs.Deed.{Files}
use Rattle.world.specs.Look.{Agree}
use Rattle.world.specs.Made.{closed_by}
use Rattle.world.specs.Noted.{is_file, is_no_file}
use Rattle.world.specs.Run.{Done, marks_of, outcome_of, world_after}
use Rattle.world.specs.Settings.{SettingsData}
use Rattle.world.specs.Trace.{steps_of}
use Rattle.world.specs.World.{Asked}
use Rattle.interp.specs.Evaluation.{MachineSaid, evaluated_files}
use Rattle.interp.specs.Laws.{SayAlike}
use Rattle.meson.specs.Setup.{project_of, run_of}

-- Returns the paths that the run of these files, settings and reading of a machine file looks at.
abbrev pub looked_at : Files → SettingsData → MachineSaid → List (List ℕ)
looked_at files s said = (world_after (evaluated_files files s said)).looked

-- Returns the questions that the run asks of the machine file.
abbrev pub asked_by : Files → SettingsData → MachineSaid → List Asked
asked_by files s said = (world_after (evaluated_files files s said)).asked

-- The document lists the paths that were looked at as read, each once, in the order of the first look. Paths with a file of the tree are
-- present, the others absent. So each file of the tree that an edge needs is listed.
pub record ListsWhatItLooksAt : Type 0 where
  pub present : (f : Files) (s : SettingsData) (said : MachineSaid)
      → (project_of f s said).present ≡ first_kept (filter (is_file f) (looked_at f s said))
  pub absent : (f : Files) (s : SettingsData) (said : MachineSaid)
      → (project_of f s said).absent ≡ first_kept (filter (is_no_file f) (looked_at f s said))
  pub files : (f : Files) (s : SettingsData) (said : MachineSaid) → list_all (is_file f) (project_of f s said).present ≡ true

-- Returns the files of the tree that the run looked at, as paths from the build directory.
abbrev pub files_seen : Files → SettingsData → MachineSaid → List Path
files_seen f s said =
    map (source_path (project_of f s said).surroundings.facts.depth) (first_kept (filter (is_file f) (looked_at f s said)))

-- Returns the outputs that the evaluation of these files closes, if `before` is open at its start.
abbrev pub closed_in : Files → SettingsData → MachineSaid → Option Path → List Path
closed_in f s said before = closed_by before (steps_of (marks_of (evaluated_files f s said)))

-- Holds if each path that an edge of `build.ninja` needs is one of these:
-- - an output of an earlier edge;
-- - a file of the tree that the run looked at, as seen from the build directory;
-- - an output that was closed before `build.ninja` is begun. Its `Close` is an event by then, whichever output was open before the run.
abbrev pub AreThere : Files → SettingsData → MachineSaid → Type 0
AreThere f s said = (before : Option Path)
    → are_made (files_seen f s said ++ closed_in f s said before) (edges_read (project_of f s said)) ≡ true

-- Holds if `AreThere` holds of each successful run whose project has the meaning that `Means` defines.
abbrev pub NeedsAreThere : Type 0
NeedsAreThere = (f : Files) (s : SettingsData) (said : MachineSaid)
    → outcome_of (evaluated_files f s said) ≡ Done tt → Means (project_of f s said) → AreThere f s said

-- Take two trees that agree on the paths that the run of the first looks at: the same bytes, or no file in both. Take two machine files
-- that agree on the questions that it asks: the same answers, or the same fault. Then both runs are equal, in the steps that the outputs
-- are asked to take and in the status.
abbrev pub DependsOnLooked : Type 0
DependsOnLooked = (f g : Files) (s : SettingsData) (said other : MachineSaid)
    → Agree f g (looked_at f s said) → SayAlike said other (asked_by f s said) → run_of g s other ≡ run_of f s said
