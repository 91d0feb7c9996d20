-- Defines the checks of the compiler, and `find_library`.
use Rattle.std.specs.Prelude.{ℕ, Bool, false, List, [], ◌∷◌, ◌++◌, Option, Some, None, Result, Ok, Err, option_and_then, codes}
use Rattle.std.specs.Prelude.{if◌then◌else◌}
use Rattle.arguments.specs.Arguments.{ArgumentsData}
use Rattle.values.specs.Flat.{flat_all}
use Rattle.arguments.specs.Given.{argument, requirement, text_at}
use Rattle.arguments.specs.declared.readers.Requirement.{Requirement}
use Rattle.arguments.specs.declared.readers.Requirement.TheVariants as requirements
use Rattle.values.specs.Data.{Data, boolean, object, text_in}
use Rattle.values.specs.declared.object.Dependency.{Dependency}
use Rattle.values.specs.declared.object.Object.TheVariants as objects
use Rattle.values.specs.declared.refusal.OperationRefusal.{OperationRefusal}
use Rattle.values.specs.declared.refusal.OperationRefusal.TheVariants as operations
use Rattle.support.specs.declared.faults.refusal.Refusal.TheVariants as refusals
use Rattle.machine_file.specs.Questions.{check_topic}
use Rattle.resources.specs.Beside.{call_question}
use Rattle.resources.specs.Found.{found_dependency, missing_dependency}
use Rattle.world.specs.Deed.{Deed, give, consult, ◌>>=◌, answer_or_refusal, need}
use Rattle.methods.specs.CompilerSaid.{is_true}

-- Returns whether a check is true. A required check that is false is refused with E17 and a name. For a disabled requirement the result is
-- false.
unfoldable pub required_as : Requirement → Bool → List ℕ → Deed Bool
required_as requirements.Required is_so name = do
  _ ← need is_so refusals.NotFound name
  give is_so
required_as requirements.Optional is_so name = give is_so
required_as requirements.Disabled is_so name = give false

-- Returns whether the machine file answers true to the check of this method with the texts of a call.
unfoldable pub is_checked : (method : List ℕ) → ArgumentsData → Deed Bool
is_checked method a = do
  answer ← consult (call_question (check_topic method (flat_all a.positional)) a)
  give (is_true answer)

-- Returns the result of a check, whose first text is its name. The keyword `required` decides whether a false check is refused.
unfoldable pub checked_for : (default : Requirement) → (method : List ℕ) → ArgumentsData → Deed Bool
checked_for default method a = do
  is_so ← is_checked method a
  required_as (requirement default a) is_so (text_at 0 a)

-- Runs a check, such as `has_function(name)`.
unfoldable pub check : (method : List ℕ) → ArgumentsData → Deed (Option Data)
check method a = do
  is_so ← checked_for requirements.Optional method a
  give (Some (boolean is_so))

-- ---- libraries

-- Returns the linker argument for a library.
abbrev pub library_argument : List ℕ → List ℕ
library_argument name = codes "-l" ++ name

-- Returns the dependency for a library: it has no version, and one linker argument.
abbrev pub library : Bool → List ℕ → Result Dependency OperationRefusal
library is_there name =
    if is_there then found_dependency name (codes "unknown") [] (library_argument name ∷ []) else missing_dependency name

-- Returns a dependency as a value.
abbrev pub dependency_data : Result Dependency OperationRefusal → Result Data OperationRefusal
dependency_data (Ok d) = Ok (object (objects.Dependency d))
dependency_data (Err refusal) = Err refusal

-- Returns the dependency for a library as a value, and E9 without a name.
abbrev pub library_named : Bool → Option (List ℕ) → Result Data OperationRefusal
library_named is_so None = Err operations.Arguments
library_named is_so (Some name) = dependency_data (library is_so name)

-- Defines `find_library(name)`: runs the check of that name, which is required by default.
unfoldable pub find_library : ArgumentsData → Deed (Option Data)
find_library a = do
  is_so ← checked_for requirements.Required (codes "find_library") a
  d ← answer_or_refusal (library_named is_so (option_and_then text_in (argument 0 a)))
  give (Some d)
