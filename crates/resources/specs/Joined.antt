-- Defines how `declare_dependency` joins a dependency with those that it depends on.
use Rattle.std.specs.Prelude.{Bool, ◌&&◌, nat_le, List, [], ◌∷◌, ◌++◌, length, Result, Ok, Err, if◌then◌else◌}
use Rattle.values.specs.Data.{Data, list, object, Items, no_items, item}
use Rattle.values.specs.declared.object.Dependency.{Dependency}
use Rattle.values.specs.declared.object.Object.{Object}
use Rattle.values.specs.declared.object.Object.TheVariants as objects
use Rattle.values.specs.declared.refusal.OperationRefusal.{OperationRefusal}
use Rattle.values.specs.declared.refusal.OperationRefusal.TheVariants as refusal
use Rattle.support.specs.Limits.{items}

-- Returns a dependency in a list, and nothing for any other object.
abbrev pub if_dependency : Object → List Dependency
if_dependency (objects.Dependency d) = d ∷ []
if_dependency _ = []

-- Returns the dependencies in a value, in order, with all lists flattened.
abbrev mutual
  pub dependencies_in : Data → List Dependency
  dependencies_in (object o) = if_dependency o
  dependencies_in (list ds) = dependencies_of ds
  dependencies_in _ = []

  -- Returns the dependencies in the items of a list, in order, with all lists flattened.
  pub dependencies_of : Items → List Dependency
  dependencies_of no_items = []
  dependencies_of (item d ds) = dependencies_in d ++ dependencies_of ds

-- Holds if no list has too many items.
abbrev pub is_within : Dependency → Bool
is_within d =
    nat_le (length d.include_directories) items && (nat_le (length d.compile_args) items
    && (nat_le (length d.link_args) items && (nat_le (length d.link_with) items && nat_le (length d.sources) items)))

-- Returns a dependency with the lists of another appended to its own.
abbrev pub with_all_lists : Dependency → Dependency → Dependency
with_all_lists d other = record {
  is_found = d.is_found;
  name = d.name;
  version = d.version;
  include_directories = d.include_directories ++ other.include_directories;
  compile_args = d.compile_args ++ other.compile_args;
  link_args = d.link_args ++ other.link_args;
  link_with = d.link_with ++ other.link_with;
  sources = d.sources ++ other.sources;
}

-- Returns a dependency with the lists of another appended to its own, if that one was found.
abbrev pub with_lists : Dependency → Dependency → Dependency
with_lists d other = if other.is_found then with_all_lists d other else d

-- Returns a dependency with the lists of others appended, in order.
abbrev pub with_all : Dependency → List Dependency → Dependency
with_all d [] = d
with_all d (o ∷ os) = with_all (with_lists d o) os

-- Returns a dependency that is within the limits, and otherwise the refusal.
abbrev pub within_limits : Dependency → Result Dependency OperationRefusal
within_limits d = if is_within d then Ok d else Err refusal.Limit

-- Returns a dependency with the lists of others appended, or the refusal if a list is too long.
abbrev pub dependency_with_others : Dependency → List Dependency → Result Dependency OperationRefusal
dependency_with_others d others = within_limits (with_all d others)
