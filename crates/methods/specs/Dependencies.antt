-- Defines the methods of a dependency: the type `dep` of the page "Reference manual".
use Rattle.std.specs.Prelude.{ℕ, List, Option, Some, None, Result, Ok, Err, codes, if◌then◌else◌}
use Rattle.values.specs.Data.{Data, boolean, text}
use Rattle.values.specs.Limits.{within}
use Rattle.values.specs.declared.object.Dependency.{Dependency}
use Rattle.values.specs.declared.refusal.OperationRefusal.{OperationRefusal}
use Rattle.values.specs.declared.refusal.OperationRefusal.TheVariants as refusal
use Rattle.values.specs.declared.language_names.object_methods.DependencyMethod.{DependencyMethod}
use Rattle.values.specs.declared.language_names.object_methods.DependencyMethod.TheVariants.{Found, Name, Version}
use Rattle.values.specs.language_names.ObjectMethods.{dependency_method_named}

-- Returns the version, and `unknown` if the dependency was not found.
abbrev pub version_of : Dependency → Result Data OperationRefusal
version_of d = if d.is_found then Ok (text d.version) else within (text (codes "unknown"))

-- Returns the result of a method of a dependency, or E8 if there is none.
abbrev pub answer_by : Option DependencyMethod → Dependency → Result Data OperationRefusal
answer_by None d = Err refusal.UnknownMethod
answer_by (Some Found) d = Ok (boolean d.is_found)
answer_by (Some Name) d = Ok (text d.name)
answer_by (Some Version) d = version_of d

-- Returns the result of the method of a dependency with this name.
abbrev pub answer : Dependency → List ℕ → Result Data OperationRefusal
answer d name = answer_by (dependency_method_named name) d
