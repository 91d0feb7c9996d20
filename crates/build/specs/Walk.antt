-- Defines the walk through static libraries that finds the libraries of a target.
use Rattle.std.specs.Prelude.{ℕ, Option, Some, None, List, [], ◌∷◌, map, nat_eq, if◌then◌else◌}
use Rattle.std.specs.List.{list_any}
use Rattle.support.specs.Sets.{insert_key}
use Rattle.build.specs.Data.{BuildData}
use Rattle.build.specs.Sources.{list_with_dependencies}
use Rattle.build.specs.Files.{is_static}
use Rattle.build.specs.Libraries.{DeclaredTargetData, build_at}
use Rattle.build.specs.declared.walk.Step.{Step}
use Rattle.build.specs.declared.walk.Step.TheVariants.{Enter, Leave}

-- Returns the build target if there is one and it is a static library, and none otherwise.
abbrev pub if_static : Option BuildData → Option BuildData
if_static None = None
if_static (Some t) = if is_static t.kind then Some t else None

-- Returns the static library with a number.
abbrev pub static_at : List DeclaredTargetData → ℕ → Option BuildData
static_at earlier n = if_static (build_at earlier n)

-- Returns the steps into the libraries that the target and its dependencies name.
abbrev pub steps_of : BuildData → List Step
steps_of t = map Enter (list_with_dependencies (λ l. l.link_with) t)

-- Returns the steps into the static library with this number, and out of it.
abbrev pub steps_into : ℕ → Option BuildData → List Step
steps_into n None = []
steps_into n (Some t) = Leave n ∷ steps_of t

-- Keeps a library that adds no libraries at once.
abbrev pub kept_into : ℕ → Option BuildData → List ℕ → List ℕ
kept_into n None kept = insert_key nat_eq kept n
kept_into n (Some t) kept = kept

-- Returns the steps that replace one. A kept library is not entered again.
abbrev pub steps_for : List DeclaredTargetData → (kept : List ℕ) → Step → List Step
steps_for earlier kept (Enter n) = if list_any (nat_eq n) kept then [] else steps_into n (static_at earlier n)
steps_for earlier kept (Leave n) = []

-- Returns the libraries that are kept after a step.
abbrev pub kept_after : List DeclaredTargetData → (kept : List ℕ) → Step → List ℕ
kept_after earlier kept (Enter n) = if list_any (nat_eq n) kept then kept else kept_into n (static_at earlier n) kept
kept_after earlier kept (Leave n) = insert_key nat_eq kept n
