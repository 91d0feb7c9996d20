-- Defines the weight of a value, and the depth of its nested lists and dictionaries.
use Rattle.std.specs.Prelude.{ℕ, ◌+◌, max, length}
use Rattle.values.specs.Data.{Data, boolean, integer, text, list, dictionary, object, Items, no_items, item, Entries, no_entries, entry}

-- Returns the weight of a value: a text weighs its bytes plus one, a list or a dictionary the sum of its items and keys plus one, anything
-- else one.
abbrev mutual
  pub weight : Data → ℕ
  weight (boolean b) = 1
  weight (integer z) = 1
  weight (text t) = length t + 1
  weight (list ds) = items_weight ds + 1
  weight (dictionary es) = entries_weight es + 1
  weight (object o) = 1

  -- Returns the sum of the items' weights.
  pub items_weight : Items → ℕ
  items_weight no_items = 0
  items_weight (item d ds) = weight d + items_weight ds

  -- Returns the sum of the weights of the keys and the values. A key weighs its bytes plus one.
  pub entries_weight : Entries → ℕ
  entries_weight no_entries = 0
  entries_weight (entry k d es) = (length k + 1) + (weight d + entries_weight es)

-- Returns how many levels of lists and dictionaries a value has.
abbrev mutual
  pub depth : Data → ℕ
  depth (boolean b) = 0
  depth (integer z) = 0
  depth (text t) = 0
  depth (list ds) = items_depth ds + 1
  depth (dictionary es) = entries_depth es + 1
  depth (object o) = 0

  -- Returns the depth of the deepest item, or 0 if there are no items.
  pub items_depth : Items → ℕ
  items_depth no_items = 0
  items_depth (item d ds) = max (depth d) (items_depth ds)

  -- Returns the depth of the deepest value, or 0 if there are no entries.
  pub entries_depth : Entries → ℕ
  entries_depth no_entries = 0
  entries_depth (entry k d es) = max (depth d) (entries_depth es)
