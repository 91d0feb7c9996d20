-- Defines values as plain data.
use Rattle.std.specs.Prelude.{◌≡◌, ℕ, suc, ℤ, Bool, true, false, List, [], ◌∷◌, Option, Some, None, if◌then◌else◌, bytes_eq, ◌||◌}
use Rattle.values.specs.declared.object.Object.{Object}
use Rattle.values.specs.declared.object.Object.TheVariants as TheObject

-- The plain data of values: a value, the items of a list, and the entries of a dictionary.
mutual
  -- A value of the language, without its place in memory.
  pub data Data : Type 0 where
    boolean : Bool → Data
    integer : ℤ → Data
    text : List ℕ → Data
    list : Items → Data
    dictionary : Entries → Data
    object : Object → Data

  -- The items of a list, in order.
  pub data Items : Type 0 where
    no_items : Items
    item : Data → Items → Items

  -- The entries of a dictionary, in order of insertion. Each has a key and a value.
  pub data Entries : Type 0 where
    no_entries : Entries
    entry : List ℕ → Data → Entries → Entries

-- Returns the items of one list followed by the items of another.
abbrev pub items_append : Items → Items → Items
items_append no_items ys = ys
items_append (item x xs) ys = item x (items_append xs ys)

-- Returns the number of items.
abbrev pub count : Items → ℕ
count no_items = 0
count (item d ds) = suc (count ds)

-- Returns the value of a key, and none if the key is absent.
abbrev pub find : List ℕ → Entries → Option Data
find k no_entries = None
find k (entry l d es) = if bytes_eq k l then Some d else find k es

-- Returns the entries with a key set to a value. A key that is present keeps its place; a new key goes last.
abbrev pub entries_with : List ℕ → Data → Entries → Entries
entries_with k d no_entries = entry k d no_entries
entries_with k d (entry l e es) = if bytes_eq k l then entry l d es else entry l e (entries_with k d es)

-- Returns the number of entries.
abbrev pub entry_count : Entries → ℕ
entry_count no_entries = 0
entry_count (entry k d es) = suc (entry_count es)

-- Returns the keys, in order of insertion.
abbrev pub keys_in : Entries → List (List ℕ)
keys_in no_entries = []
keys_in (entry k d es) = k ∷ keys_in es

-- Returns the values, in order of insertion.
abbrev pub entry_values : Entries → Items
entry_values no_entries = no_items
entry_values (entry k d es) = item d (entry_values es)

-- Returns the boolean of a value, and none for a value of another type.
abbrev pub boolean_in : Data → Option Bool
boolean_in (boolean b) = Some b
boolean_in _ = None

-- Returns the integer of a value, and none for a value of another type.
abbrev pub integer_in : Data → Option ℤ
integer_in (integer z) = Some z
integer_in _ = None

-- Returns the text of a value, and none for a value of another type.
abbrev pub text_in : Data → Option (List ℕ)
text_in (text t) = Some t
text_in _ = None

-- Returns the items of a list, and none for a value of another type.
abbrev pub items_in : Data → Option Items
items_in (list ds) = Some ds
items_in _ = None

-- Returns the entries of a dictionary, and none for a value of another type.
abbrev pub entries_in : Data → Option Entries
entries_in (dictionary es) = Some es
entries_in _ = None

-- Returns the object of a value, and none for a value of another type.
abbrev pub object_in : Data → Option Object
object_in (object o) = Some o
object_in _ = None

-- Holds if a value is a disabler itself; a list that contains one does not count.
abbrev pub is_disabler : Data → Bool
is_disabler (object TheObject.Disabler) = true
is_disabler _ = false

-- Holds if a value is a disabler, or a list that contains one at any depth of lists.
abbrev mutual
  pub has_disabler : Data → Bool
  has_disabler (boolean b) = false
  has_disabler (integer z) = false
  has_disabler (text t) = false
  has_disabler (list ds) = have_disabler ds
  has_disabler (dictionary es) = false
  has_disabler (object o) = is_disabler (object o)

  -- Holds if one of the items is a disabler, or a list that contains one at any depth of lists.
  pub have_disabler : Items → Bool
  have_disabler no_items = false
  have_disabler (item d ds) = has_disabler d || have_disabler ds

-- Holds if no key occurs twice.
abbrev pub AreDistinct : Entries → Type 0
AreDistinct no_entries = Unit {0}
AreDistinct (entry k d es) = (find k es ≡ None) × AreDistinct es

-- Returns one dictionary updated with the entries of another. Keys of the first keep their places; values of the second win.
abbrev pub merged_entries : Entries → Entries → Entries
merged_entries es no_entries = es
merged_entries es (entry k d fs) = merged_entries (entries_with k d es) fs
