-- Defines what a project holds.
use Rattle.std.specs.Prelude.{ℤ, Bool, not, ◌&&◌, List, [], ◌∷◌, ◌++◌, map, codes}
use Rattle.build.specs.edge.Texts.{Path, Text, holds}
use Rattle.build.specs.edge.Paths.{source_path}
use Rattle.build.specs.Data.{FactsData, SurroundingsData, TargetData}
use Rattle.build.specs.edge.Data.{EdgeData}
use Rattle.build.specs.target_edges.Edges.{all_edges}
use Rattle.build.specs.project.Laws.{outputs_of}

-- The result of a call of `dependency`.
pub record AnswerData : Type 0 where
  pub name : Text
  pub version : Text
  pub is_found : Bool

-- A file that is installed: its absolute path, and its destination.
pub record InstallData : Type 0 where
  pub source : Path
  pub destination : Path

-- A test that a call of `test` declares.
pub record TestData : Type 0 where
  pub name : Text
  -- The words of the command, with files and targets as absolute paths.
  pub command : List Text
  -- Texts of the form `K=V`.
  pub environment : List Text
  pub suites : List Text
  pub should_fail : Bool
  -- In seconds.
  pub timeout : ℤ

-- A project: its facts, and everything that its definition files declare.
pub record WorldData : Type 0 where
  -- The facts, and the arguments of the project.
  pub surroundings : SurroundingsData
  -- The targets, in the order of their declaration.
  pub targets : List TargetData
  -- The outputs of `configure_file`.
  pub outputs : List Path
  -- The paths of the tree that were looked at: those with a file, and those without.
  pub present : List Path
  pub absent : List Path
  -- The results of the calls of `dependency`, the installed files and the tests, each in the order of the calls.
  pub dependencies : List AnswerData
  pub installs : List InstallData
  pub tests : List TestData

-- Returns a project in which nothing is declared yet.
abbrev pub new_world : FactsData → WorldData
new_world facts = record {
  surroundings = record { facts = facts; arguments = []; link_arguments = [] };
  targets = [];
  outputs = [];
  present = [];
  absent = [];
  dependencies = [];
  installs = [];
  tests = [];
}

-- Returns the edges of all targets.
abbrev pub edges_in : WorldData → List EdgeData
edges_in w = all_edges w.surroundings w.targets

-- Returns the paths that Ninja and the introspection need for themselves.
abbrev pub reserved_paths : List Path
reserved_paths = codes "all" ∷ codes "build.ninja" ∷ codes "meson-info/introspect.json" ∷ []

-- Returns the paths that edges and `configure_file` make.
abbrev pub made_of : SurroundingsData → List TargetData → (outputs : List Path) → List Path
made_of s ts outputs = outputs_of (all_edges s ts) ++ outputs

-- Returns the paths that nothing more may make.
abbrev pub taken_of : SurroundingsData → List TargetData → (outputs : List Path) → List Path
taken_of s ts outputs = reserved_paths ++ made_of s ts outputs

-- Returns the paths that exist before any edge has run, seen from the build directory: files of the tree, and outputs of `configure_file`.
abbrev pub known_of : SurroundingsData → (outputs present : List Path) → List Path
known_of s outputs present = map (source_path s.facts.depth) present ++ outputs

-- Returns the paths that edges and `configure_file` make in the project, seen from the build directory.
abbrev pub made_in : WorldData → List Path
made_in w = made_of w.surroundings w.targets w.outputs

-- Returns the paths that nothing more may make in the project: the reserved ones, and those that are made.
abbrev pub taken_in : WorldData → List Path
taken_in w = taken_of w.surroundings w.targets w.outputs

-- Returns the paths that exist before any edge of the project has run, seen from the build directory.
abbrev pub known_in : WorldData → List Path
known_in w = known_of w.surroundings w.outputs w.present

-- Returns whether the path is one of these, and not a reserved one.
abbrev pub is_made_in : (kept : List Path) → Path → Bool
is_made_in kept path = holds path kept && not (holds path reserved_paths)
