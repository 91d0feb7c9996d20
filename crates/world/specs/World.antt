-- Defines the world in which definition files are evaluated.
use Rattle.std.specs.Prelude.{◌≡◌, ℕ, Bool, true, false, List, [], ◌∷◌, ◌++◌, Option, if◌then◌else◌}
use Rattle.std.specs.Str.{bytes_eq}
use Rattle.values.specs.Data.{Data}
use Rattle.build.specs.edge.Texts.{first_kept}
use Rattle.support.specs.Faults.{FaultData}
use Rattle.support.specs.declared.faults.refusal.Refusal.{Refusal}
use Rattle.machine_file.specs.Files.{Section}
use Rattle.machine_file.specs.Questions.{Question}
use Rattle.option_values.specs.Settings.{Setting}
use Rattle.build.specs.project.Adding.{with_absent, with_present}
use Rattle.build.specs.project.World.{WorldData, new_world}
use Rattle.build.specs.Data.{FactsData}
use Rattle.template.specs.Config.{Configuration}
use Rattle.world.specs.Settings.{SettingsData}

-- The facts that a call may read and change.
pub record Facts : Type 0 where
  -- The present definition file, its folder, and the line in it.
  pub file : List ℕ
  pub folder : List ℕ
  pub line : ℕ
  -- What a user sets.
  pub settings : SettingsData
  -- The variables by name.
  pub variables : List ℕ → Option Data
  -- The options with their values, empty before `project` is called.
  pub options : List Setting
  -- Configuration data by number.
  pub configurations : List Configuration
  -- Whether `project` was called, and the project so far.
  pub is_begun : Bool
  pub project : WorldData

-- A question that was asked of the machine file, and the place of the call that asked it.
pub record Asked : Type 0 where
  pub question : Question
  pub file : List ℕ
  pub line : ℕ

-- The facts, and the sections of the machine file, which the facts do not contain. Then the folders entered, the paths looked at and the
-- questions asked, each in order.
pub record World : Type 0 where
  pub facts : Facts
  pub machine : List Section
  pub entered : List (List ℕ)
  pub looked : List (List ℕ)
  pub asked : List Asked

-- Returns a world with other facts.
abbrev pub with_facts : World → Facts → World
with_facts w facts = record w { facts = facts }

-- Returns the world after a folder was entered.
abbrev pub world_in_folder : World → List ℕ → World
world_in_folder w folder = record w { entered = w.entered ++ folder ∷ [] }

-- Returns a fault at the present place.
abbrev pub fault_here : World → Refusal → List ℕ → FaultData
fault_here w refusal detail = record { file = w.facts.file; line = w.facts.line; refusal = refusal; detail = detail }

-- ---- changes of the facts

-- Returns the facts at another line of the present file.
abbrev pub with_line : ℕ → Facts → Facts
with_line line f = record f { line = line }

-- Returns the facts at a line of another file.
abbrev pub with_place : List ℕ → List ℕ → ℕ → Facts → Facts
with_place file folder line f = record f { file = file; folder = folder; line = line }

-- Returns the facts with other variables.
abbrev pub with_variables : (List ℕ → Option Data) → Facts → Facts
with_variables variables f = record f { variables = variables }

-- Returns the facts with other options.
abbrev pub with_options : List Setting → Facts → Facts
with_options options f = record f { options = options }

-- Returns the facts with other configuration data.
abbrev pub with_configurations : List Configuration → Facts → Facts
with_configurations configurations f = record f { configurations = configurations }

-- Returns the facts with another project.
abbrev pub with_project : WorldData → Facts → Facts
with_project project f = record f { project = project }

-- Returns the variables with one of them set to a value, or unset.
abbrev pub variables_with : (List ℕ → Option Data) → List ℕ → Option Data → List ℕ → Option Data
variables_with variables name value other = if bytes_eq name other then value else variables other

-- Returns the facts with a variable set to a value, or unset.
abbrev pub with_variable : List ℕ → Option Data → Facts → Facts
with_variable name value f = with_variables (variables_with f.variables name value) f

-- ---- the project

-- Returns a project without declarations. The paths that were looked at before stay noted.
abbrev pub begun_project : FactsData → WorldData → WorldData
begun_project facts before =
    record (new_world facts) { present = first_kept before.present; absent = first_kept before.absent }

-- Returns the facts after `project` was called with these facts of the project.
abbrev pub facts_after_project : FactsData → Facts → Facts
facts_after_project facts f = record f { is_begun = true; project = begun_project facts f.project }

-- Returns the project after it notes a path as present or absent.
abbrev pub project_with_path : List ℕ → Bool → WorldData → WorldData
project_with_path path true project = with_present project path
project_with_path path false project = with_absent project path

-- Returns the paths that the project has noted as present, and those noted as absent.
abbrev pub noted_in : WorldData → List (List ℕ) × List (List ℕ)
noted_in project = (project.present, project.absent)

-- Returns the noted paths, and the paths that `configure_file` makes.
abbrev pub paths_in : WorldData → (List (List ℕ) × List (List ℕ)) × List (List ℕ)
paths_in project = (noted_in project, project.outputs)

-- Holds if a change of the project keeps all of these paths.
abbrev pub KeepsPaths : (WorldData → WorldData) → Type 0
KeepsPaths f = (project : WorldData) → paths_in (f project) ≡ paths_in project

-- Holds if a change of the facts keeps all of these paths.
abbrev pub LeavesPaths : (Facts → Facts) → Type 0
LeavesPaths f = (facts : Facts) → paths_in (f facts).project ≡ paths_in facts.project

-- Changes the project by `f`.
abbrev pub facts_after_declaration : (WorldData → WorldData) → Facts → Facts
facts_after_declaration f facts = with_project (f facts.project) facts

-- Returns the world after a path was looked at.
abbrev pub world_after_look : World → List ℕ → Bool → World
world_after_look w path is_there = record {
  facts = with_project (project_with_path path is_there w.facts.project) w.facts;
  machine = w.machine;
  entered = w.entered;
  looked = w.looked ++ path ∷ [];
  asked = w.asked;
}

-- ---- the machine file

-- Returns a question asked at the present place.
abbrev pub asked_here : World → Question → Asked
asked_here w question = record { question = question; file = w.facts.file; line = w.facts.line }

-- Returns the world after a question was asked.
abbrev pub world_after_question : World → Question → World
world_after_question w question = record w { asked = w.asked ++ asked_here w question ∷ [] }
