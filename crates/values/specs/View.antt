-- Defines the plain data of a value.
use Rattle.std.specs.Prelude.{◌≡◌, ◌≤◌, ◌+◌, ℕ, List, [], ◌∷◌, length}
use Rattle.values.specs.Data.{Data, boolean, integer, text, list, dictionary, object, Items, no_items, item, Entries, no_entries, entry}
use Rattle.values.specs.Data.{AreDistinct}
use Rattle.values.specs.Data.{have_disabler}
use Rattle.values.specs.Weight.{items_weight, items_depth, entries_weight, entries_depth}
use Rattle.values.specs.declared.value.Value.{Value}
use Rattle.values.specs.declared.value.Value.TheVariants as value
use Rattle.values.specs.declared.value.List.TheInside.{Inside as ListInside}
use Rattle.values.specs.declared.value.Dictionary.TheInside.{Inside as DictionaryInside}

-- Returns the plain data of a value. Lists and dictionaries already have plain data as their view.
abbrev pub data_of : Value → Data
data_of (value.Boolean b) = boolean b
data_of (value.Integer z) = integer z
data_of (value.Text t) = text t
data_of (value.List l) = list l.value
data_of (value.Dictionary d) = dictionary d.value
data_of (value.Object o) = object o.value

-- Returns the plain data of some values, as items.
abbrev pub items_of : List Value → Items
items_of [] = no_items
items_of (v ∷ vs) = item (data_of v) (items_of vs)

-- Returns the entries made of some keys and their values, pair by pair.
abbrev pub entries_of : List (List ℕ) → List Value → Entries
entries_of [] vs = no_entries
entries_of (k ∷ ks) [] = no_entries
entries_of (k ∷ ks) (v ∷ vs) = entry k (data_of v) (entries_of ks vs)

-- Holds if a list's stored weight, depth and disabler flag are those of its items, and the list is within the limits.
pub record IsList (inside : ListInside) : Type 0 where
  pub weight : inside.weight ≡ items_weight (items_of inside.items.items)
  pub depth : inside.depth ≡ items_depth (items_of inside.items.items)
  pub disabled : inside.has_disabler ≡ have_disabler (items_of inside.items.items)
  -- A list has at most 65536 items.
  pub few : length inside.items.items ≤ 65536
  -- A list weighs at most 33554432.
  pub light : inside.weight + 1 ≤ 33554432
  -- A list has at most 64 levels.
  pub shallow : inside.depth + 1 ≤ 64

-- Holds if a dictionary has as many values as keys, stores their weight and depth, and is within the limits.
pub record IsDictionary (inside : DictionaryInside) : Type 0 where
  -- There are as many values as keys.
  pub pairs : length inside.keys ≡ length inside.values.items
  -- No key occurs twice.
  pub distinct : AreDistinct (entries_of inside.keys inside.values.items)
  pub weight : inside.weight ≡ entries_weight (entries_of inside.keys inside.values.items)
  pub depth : inside.depth ≡ entries_depth (entries_of inside.keys inside.values.items)
  -- A dictionary has at most 65536 entries.
  pub few : length inside.values.items ≤ 65536
  -- A dictionary weighs at most 33554432.
  pub light : inside.weight + 1 ≤ 33554432
  -- A dictionary has at most 64 levels.
  pub shallow : inside.depth + 1 ≤ 64
