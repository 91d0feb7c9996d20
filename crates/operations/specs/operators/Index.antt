-- Defines `whole[index]`, by the page "Syntax" of the Meson manual: a part of a list, a text, a dictionary or a custom target.
use Rattle.std.specs.Prelude.{ℕ, zero, suc, ℤ, pos, negsuc, ◌-◌, nat_lt, ◌||◌, List, length, Option, Some, None, option_map}
use Rattle.std.specs.Prelude.{option_and_then, ok_or, slice_get, Result, Ok, Err, if◌then◌else◌}
use Rattle.std.specs.Str.{chars}
use Rattle.std.specs.Char.{encode_utf8}
use Rattle.values.specs.declared.object.Object.{Object}
use Rattle.values.specs.declared.object.Object.TheVariants as TheObject
use Rattle.values.specs.declared.refusal.OperationRefusal.{OperationRefusal}
use Rattle.values.specs.declared.refusal.OperationRefusal.TheVariants as refusal
use Rattle.values.specs.Data.{Data, integer, text, list, dictionary, object, Items, no_items, item, count, find, is_disabler}
use Rattle.operations.specs.operators.Operations.{disabler}

-- Returns the position that an index denotes among `n` parts. `negsuc i` is -(i + 1): a negative index counts from the end, and -1 is the
-- last part.
abbrev pub place : ℤ → ℕ → Option ℕ
place (pos i) n = if nat_lt i n then Some i else None
place (negsuc i) n = if nat_lt i n then Some (n - suc i) else None

-- Returns the item at a position.
abbrev pub item_at : Items → ℕ → Option Data
item_at no_items k = None
item_at (item d ds) zero = Some d
item_at (item d ds) (suc k) = item_at ds k

-- Returns the item at an index.
abbrev pub indexed_item : Items → ℤ → Option Data
indexed_item ds i = option_and_then (item_at ds) (place i (count ds))

-- Returns the code of the character at an index.
abbrev pub indexed_char : List ℕ → ℤ → Option ℕ
indexed_char t i = option_and_then (slice_get (chars t)) (place i (length (chars t)))

-- Returns the text of a character, if there is one.
abbrev pub char_text : Option ℕ → Option Data
char_text c = option_map (λ n. text (encode_utf8 n)) c

-- Returns the output of a custom target at an index.
abbrev pub indexed_output : ℕ → ℕ → ℤ → Option Object
indexed_output number outputs i = option_map (TheObject.CustomOutput number) (place i outputs)

-- Returns the part, if there is one.
abbrev pub part : Data → Data → Option Data
part (list ds) (integer i) = indexed_item ds i
part (text t) (integer i) = char_text (indexed_char t i)
part (dictionary es) (text k) = find k es
part (object (TheObject.CustomTarget number outputs)) (integer i) = option_map object (indexed_output number outputs i)
part _ _ = None

-- Returns the refusal if there is no part: E10 if the types fit, and otherwise E6.
abbrev pub part_refusal : Data → Data → OperationRefusal
part_refusal (list ds) (integer i) = refusal.Absent
part_refusal (text t) (integer i) = refusal.Absent
part_refusal (dictionary es) (text k) = refusal.Absent
part_refusal (object (TheObject.CustomTarget number outputs)) (integer i) = refusal.Absent
part_refusal _ _ = refusal.Type

-- Returns the part of an object at an integer index: an output of a custom target, and otherwise a refusal.
abbrev pub output_outcome : Object → ℤ → Result Object OperationRefusal
output_outcome (TheObject.CustomTarget number outputs) i = ok_or (indexed_output number outputs i) refusal.Absent
output_outcome _ i = Err refusal.Type

-- Returns the part, and otherwise the refusal.
abbrev pub part_outcome : Data → Data → Result Data OperationRefusal
part_outcome d i = ok_or (part d i) (part_refusal d i)

-- Returns the part. If the whole or the index is a disabler, the result is a disabler.
abbrev pub index_answer : Data → Data → Result Data OperationRefusal
index_answer d i = if is_disabler d || is_disabler i then Ok disabler else part_outcome d i
