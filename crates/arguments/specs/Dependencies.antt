-- Decides whether dependencies in lists of any depth were found.
use Rattle.std.specs.Prelude.{Bool, true, false, ◌&&◌}
use Rattle.values.specs.Data.{Data, list, object, Items, no_items, item}
use Rattle.values.specs.declared.object.Object.{Object}
use Rattle.values.specs.declared.object.Object.TheVariants as objects

-- Holds if an object is a dependency that was found.
abbrev pub is_found : Object → Bool
is_found (objects.Dependency d) = d.is_found
is_found _ = false

-- Holds if all dependencies in a value were found. Any other value counts as found.
abbrev mutual
  pub are_found : Data → Bool
  are_found (object o) = is_found o
  are_found (list ds) = all_found ds
  are_found _ = true

  -- Holds if all dependencies in the items were found. Any other item counts as found.
  pub all_found : Items → Bool
  all_found no_items = true
  all_found (item d ds) = are_found d && all_found ds
