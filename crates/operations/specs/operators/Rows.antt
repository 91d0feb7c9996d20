-- Defines the result of each operator by the types of its operands, and `None` if there is no result: the page "Syntax" of the Meson
-- manual. Limits of size and disablers are added elsewhere.
-- added elsewhere.
use Rattle.std.specs.Prelude.{Bool, false, not, ◌||◌, ◌++◌, Option, Some, None, option_map, is_some, if◌then◌else◌}
use Rattle.std.specs.Ordering.{int_cmp, nat_cmp}
use Rattle.std.specs.Cmp.Lexicographic.{slice_cmp}
use Rattle.std.specs.declared.cmp.Ordering.{Ordering}
use Rattle.values.specs.Data.{Data, boolean, integer, text, list, dictionary, Items, no_items, item, items_append, find, merged_entries}
use Rattle.values.specs.Same.{same}
use Rattle.operations.specs.operators.Integers as integers
use Rattle.values.specs.texts.Search.{contains}
use Rattle.support.specs.paths.Below.{path_below}
use Rattle.operations.specs.operators.Types.{is_one_type}

-- Defines `+`. In a sum of dictionaries, keys keep their places, values of the right side win, and new keys go last.
abbrev pub sum : Data → Data → Option Data
sum (integer x) (integer y) = option_map integer (integers.sum x y)
sum (text s) (text t) = Some (text (s ++ t))
sum (list ds) (list es) = Some (list (items_append ds es))
sum (list ds) e = Some (list (items_append ds (item e no_items)))
sum (dictionary es) (dictionary fs) = Some (dictionary (merged_entries es fs))
sum _ _ = None

-- Defines `-`.
abbrev pub difference : Data → Data → Option Data
difference (integer x) (integer y) = option_map integer (integers.difference x y)
difference _ _ = None

-- Defines `*`.
abbrev pub product : Data → Data → Option Data
product (integer x) (integer y) = option_map integer (integers.product x y)
product _ _ = None

-- Defines `/`.
abbrev pub quotient : Data → Data → Option Data
quotient (integer x) (integer y) = option_map integer (integers.quotient x y)
quotient (text s) (text t) = Some (text (path_below s t))
quotient _ _ = None

-- Defines `%`.
abbrev pub remainder : Data → Data → Option Data
remainder (integer x) (integer y) = option_map integer (integers.remainder x y)
remainder _ _ = None

-- Defines `==`. Two values of one type are compared by structure.
abbrev pub equality : Data → Data → Option Bool
equality d e = if is_one_type d e then Some (same d e) else None

-- Defines the order for `<` and its like. Integers are ordered by size, texts by bytes.
abbrev pub order : Data → Data → Option Ordering
order (integer x) (integer y) = Some (int_cmp x y)
order (text s) (text t) = Some (slice_cmp nat_cmp s t)
order _ _ = None

-- Holds if a value is an item of a list.
abbrev pub is_item : Data → Items → Bool
is_item d no_items = false
is_item d (item e es) = same d e || is_item d es

-- Defines `in`: an item of a list, a key of a dictionary, or a text in a text.
abbrev pub membership : Data → Data → Option Bool
membership d (list es) = Some (is_item d es)
membership (text k) (dictionary es) = Some (is_some (find k es))
membership (text s) (text t) = Some (contains t s)
membership _ _ = None

-- Defines `not`.
abbrev pub negation : Data → Option Data
negation (boolean b) = Some (boolean (not b))
negation _ = None

-- Defines `-` with one operand.
abbrev pub opposite : Data → Option Data
opposite (integer z) = option_map integer (integers.opposite z)
opposite _ = None
