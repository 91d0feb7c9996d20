-- Defines `dependency`, which finds dependencies in the machine file.
use Rattle.std.specs.Prelude.{ℕ, Bool, false, List, [], ◌∷◌, Option, Some, None, codes}
use Rattle.std.specs.Option.{option_transpose}
use Rattle.arguments.specs.Arguments.{ArgumentsData}
use Rattle.values.specs.Flat.{flat_all}
use Rattle.arguments.specs.Given.{text_at, texts}
use Rattle.arguments.specs.declared.readers.Requirement.{Requirement}
use Rattle.arguments.specs.declared.readers.Requirement.TheVariants as requirements
use Rattle.values.specs.Data.{Data, object}
use Rattle.values.specs.declared.object.Dependency.{Dependency}
use Rattle.values.specs.declared.object.Object.TheVariants as objects
use Rattle.support.specs.declared.faults.refusal.Refusal.TheVariants as refusals
use Rattle.machine_file.specs.Questions.{dependency_topic}
use Rattle.build.specs.project.World.{AnswerData}
use Rattle.resources.specs.Beside.{call_question}
use Rattle.resources.specs.Fitting.{dependency_that_fits}
use Rattle.resources.specs.Found.{missing_dependency}
use Rattle.resource_calls.specs.Required.{gives_disabler, object_or, required_by}
use Rattle.world.specs.Declaring.{add_dependency}
use Rattle.world.specs.Deed.{Deed, give, refuse, consult, ◌>>=◌, answer_or_refusal}

-- ---- what is recorded

-- Returns what is recorded of a dependency.
abbrev pub answer_of : Dependency → AnswerData
answer_of d = record { name = d.name; version = d.version; is_found = d.is_found }

-- ---- the call

-- Returns the dependency with a name if the machine file has a section for it and its version meets the conditions of the call. Refuses one
-- that is too large with E22.
unfoldable pub ask_dependency : List ℕ → ArgumentsData → Deed (Option Dependency)
ask_dependency name a = do
  answer ← consult (call_question (dependency_topic name) a)
  answer_or_refusal (option_transpose (dependency_that_fits (texts (codes "version") a) name answer))

-- Returns the dependency with a name. The empty name has no dependency, and the machine file is not queried for it.
unfoldable pub dependency_named : List ℕ → ArgumentsData → Deed (Option Dependency)
dependency_named [] a = give None
dependency_named (b ∷ name) a = ask_dependency (b ∷ name) a

-- Returns what was found, and otherwise looks further.
abbrev pub said_or : Option Dependency → Deed (Option Dependency) → Deed (Option Dependency)
said_or (Some d) others = give (Some d)
said_or None others = others

-- Returns what the machine file says of the first name that fits. The names are looked up one after another.
unfoldable pub first_said : ArgumentsData → List (List ℕ) → Deed (Option Dependency)
first_said a [] = give None
first_said a (name ∷ names) = do
  said ← dependency_named name a
  said_or said (first_said a names)

-- Returns what the machine file says of the first name that fits. If `required` is a disabled feature, the machine file is not queried.
unfoldable pub fitting_dependency : Requirement → ArgumentsData → Deed (Option Dependency)
fitting_dependency requirements.Disabled a = give None
fitting_dependency _ a = first_said a (flat_all a.positional)

-- Records a dependency, and returns it or a disabler in its place.
unfoldable pub note_dependency : Dependency → (is_disabled : Bool) → Deed (Option Data)
note_dependency d is_disabled = do
  _ ← add_dependency (answer_of d)
  give (Some (object (object_or (objects.Dependency d) is_disabled)))

-- Returns the dependency that the machine file describes.
unfoldable pub found_result : Dependency → Deed (Option Data)
found_result d = note_dependency d false

-- Records the first name of a dependency that was not found. Returns a disabler if the keyword `disabler` requests one. Refuses a name that
-- is too long for a text with E22.
unfoldable pub missing_result : ArgumentsData → Deed (Option Data)
missing_result a = do
  d ← answer_or_refusal (missing_dependency (text_at 0 a))
  note_dependency d (gives_disabler a)

-- Returns the result if no name fits. Refuses with E17 of the first name if the dependency is required.
unfoldable pub none_fits : Requirement → ArgumentsData → Deed (Option Data)
none_fits requirements.Required a = refuse refusals.NotFound (text_at 0 a)
none_fits _ a = missing_result a

-- Returns the dependency that fits, or the result if none fits.
unfoldable pub fitting_result : ArgumentsData → Option Dependency → Deed (Option Data)
fitting_result a (Some d) = found_result d
fitting_result a None = none_fits (required_by a) a

-- Returns the first dependency that fits, of those that the arguments name (`dependency`). Refuses with E17 if none fits and one is
-- required.
unfoldable pub dependency : ArgumentsData → Deed (Option Data)
dependency a = do
  said ← fitting_dependency (required_by a) a
  fitting_result a said
