-- Defines the result of `declare_dependency`: its own lists followed by those of its dependencies, all within the limits (E22).
use Rattle.std.specs.Prelude.{ℕ, true, false, List, [], ◌∷◌, ◌++◌, length, codes, Option, Some, None, option_map, unwrap_or}
use Rattle.std.specs.Prelude.{Result, Ok}
use Rattle.arguments.specs.Arguments.{ArgumentsData}
use Rattle.arguments.specs.Given.{keyword, text_given, texts}
use Rattle.values.specs.Data.{Data}
use Rattle.values.specs.Limits.{within_bytes}
use Rattle.values.specs.declared.object.Dependency.{Dependency}
use Rattle.values.specs.declared.object.Source.{Source}
use Rattle.values.specs.declared.object.Source.TheVariants as source
use Rattle.values.specs.declared.refusal.OperationRefusal.{OperationRefusal}
use Rattle.build.specs.edge.Texts.{Path, Text}
use Rattle.resources.specs.Found.{found_dependency}
use Rattle.support.specs.ResultSteps.{◌>>=◌}
use Rattle.values.specs.Copies.{within_texts}
use Rattle.resources.specs.Joined.{dependencies_in, dependency_with_others}
use Rattle.sources.specs.Outputs.{outputs_at}
use Rattle.sources.specs.Sources.{NamedData, tree, built, outputs, output}
use Rattle.build.specs.Libraries.{DeclaredTargetData}
use Rattle.resource_calls.specs.OwnLists.{OwnData}

-- ---- sources, as a value of the language has them

-- Returns how many outputs a target has.
abbrev pub count_at : List DeclaredTargetData → ℕ → ℕ
count_at earlier number = unwrap_or (option_map length (outputs_at earlier number)) 0

-- Returns a source file, or the refusal if its path is too long.
abbrev pub tree_source : Path → Result Source OperationRefusal
tree_source path = do
  p ← within_bytes path
  Ok (source.File p false)

-- Returns the source that is named, or the refusal if its path is too long.
abbrev pub source_of : List DeclaredTargetData → NamedData → Result Source OperationRefusal
source_of earlier (tree path) = tree_source path
source_of earlier (built path) = Ok (source.File path true)
source_of earlier (outputs number) = Ok (source.CustomTarget number (count_at earlier number))
source_of earlier (output target place) = Ok (source.CustomOutput target place)

-- Returns sources followed by those that are named.
abbrev pub sources_behind : List DeclaredTargetData → List Source → List NamedData → Result (List Source) OperationRefusal
sources_behind earlier ss [] = Ok ss
sources_behind earlier ss (n ∷ ns) = source_of earlier n >>= (λ s. sources_behind earlier (ss ++ s ∷ []) ns)

-- Returns the sources that are named, or E22 if a path is too long.
abbrev pub sources_within : List DeclaredTargetData → List NamedData → Result (List Source) OperationRefusal
sources_within earlier ns = sources_behind earlier [] ns

-- ---- the dependency

-- Returns the keyword `version`, and otherwise the version of the project.
abbrev pub version_or : Text → ArgumentsData → Text
version_or project a = unwrap_or (text_given (codes "version") a) project

-- Returns the dependency with its directories, libraries and sources.
abbrev pub with_own : Dependency → (folders : List Path) → (libraries : List ℕ) → List Source → Dependency
with_own d folders libraries sources =
    record d { include_directories = folders; link_with = d.link_with ++ libraries; sources = sources }

-- Returns the dependency with its version and arguments, without directories, libraries and sources. It has no name.
abbrev pub with_arguments : Text → ArgumentsData → Result Dependency OperationRefusal
with_arguments project a = found_dependency [] (version_or project a) (texts (codes "compile_args") a) (texts (codes "link_args") a)

-- Returns the dependency with its own lists.
abbrev pub own_dependency : Text → List DeclaredTargetData → ArgumentsData → OwnData → Result Dependency OperationRefusal
own_dependency project earlier a own = do
  d ← with_arguments project a
  folders ← within_texts own.folders
  sources ← sources_within earlier own.sources
  Ok (with_own d folders own.libraries sources)

-- Returns the dependencies of the keyword `dependencies`.
abbrev pub dependencies_given : Option Data → List Dependency
dependencies_given None = []
dependencies_given (Some d) = dependencies_in d

-- Returns the dependency with its own lists, followed by those of its dependencies.
abbrev pub joined_dependency : Text → List DeclaredTargetData → ArgumentsData → OwnData → Result Dependency OperationRefusal
joined_dependency project earlier a own = do
  d ← own_dependency project earlier a own
  dependency_with_others d (dependencies_given (keyword (codes "dependencies") a))
