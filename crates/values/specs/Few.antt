-- Defines how many items a value has.
use Rattle.std.specs.Prelude.{ℕ}
use Rattle.values.specs.Data.{Data, boolean, integer, text, list, dictionary, object, count, entry_count}

-- Returns the number of items of a list or of entries of a dictionary, and 0 for any other value.
abbrev pub item_count : Data → ℕ
item_count (boolean b) = 0
item_count (integer z) = 0
item_count (text t) = 0
item_count (list ds) = count ds
item_count (dictionary es) = entry_count es
item_count (object o) = 0
