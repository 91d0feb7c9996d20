-- Defines what dependencies add to a target.
use Rattle.std.specs.Prelude.{true, false, List, [], ◌∷◌, ◌++◌, map, Option, Some, None, option_and_then, option_map, if◌then◌else◌}
use Rattle.values.specs.Data.{Data, object}
use Rattle.values.specs.declared.object.Dependency.{Dependency}
use Rattle.values.specs.declared.object.Object.{Object}
use Rattle.values.specs.declared.object.Object.TheVariants as objects
use Rattle.values.specs.declared.object.Source.{Source}
use Rattle.values.specs.declared.object.Source.TheVariants as source
use Rattle.build.specs.Data.{ListsData, SourceData}
use Rattle.build.specs.Libraries.{DeclaredTargetData}
use Rattle.sources.specs.Sources.{NamedData, tree, built, outputs, output}
use Rattle.target_calls.specs.Sources.{sources_in}

-- Returns a source of a dependency in the form in which a call names it.
abbrev pub named_of : Source → NamedData
named_of (source.File path true) = built path
named_of (source.File path false) = tree path
named_of (source.CustomTarget number count) = outputs number
named_of (source.CustomOutput target place) = output target place

-- Returns the lists of a dependency, with these sources.
abbrev pub with_sources : Dependency → List SourceData → ListsData
with_sources d ss = record {
  sources = ss;
  include_folders = d.include_directories;
  compile_args = d.compile_args;
  link_args = d.link_args;
  link_with = d.link_with;
}

-- Returns the lists that a dependency adds, and none if it has a source that no target makes.
abbrev pub lists_of : List DeclaredTargetData → Dependency → Option ListsData
lists_of earlier d = option_map (with_sources d) (sources_in earlier (map named_of d.sources))

-- Returns the dependency of an object if it was found.
abbrev pub found_in_object : Object → Option Dependency
found_in_object (objects.Dependency d) = if d.is_found then Some d else None
found_in_object _ = None

-- Returns the dependency of a value if it was found.
abbrev pub found_in : Data → Option Dependency
found_in (object o) = found_in_object o
found_in _ = None

-- Adds the lists of a dependency. One that was not found adds nothing.
abbrev pub with_found :
    List DeclaredTargetData → List ListsData → Option Dependency → (List ListsData → Option (List ListsData)) → Option (List ListsData)
with_found earlier ls None next = next ls
with_found earlier ls (Some d) next = option_and_then (λ l. next (ls ++ l ∷ [])) (lists_of earlier d)

-- Returns lists followed by those that the dependencies among values add.
abbrev pub lists_behind : List DeclaredTargetData → List ListsData → List Data → Option (List ListsData)
lists_behind earlier ls [] = Some ls
lists_behind earlier ls (v ∷ vs) = with_found earlier ls (found_in v) (λ ms. lists_behind earlier ms vs)

-- Returns the lists that the dependencies among values add, and none if one of them has a source that no target makes.
abbrev pub dependencies_of : List DeclaredTargetData → List Data → Option (List ListsData)
dependencies_of earlier vs = lists_behind earlier [] vs
