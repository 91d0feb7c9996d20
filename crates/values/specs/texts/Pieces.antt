-- Defines the pieces into which a text is cut.
use Prim.Native.Char.{code}
use Rattle.std.specs.Prelude.{ℕ, zero, suc, ◌-◌, Bool, true, false, List, [], ◌∷◌, length, filter, nat_eq, nat_le, ◌==◌, ◌||◌, Result}
use Rattle.std.specs.Prelude.{Ok, Err, if◌then◌else◌}
use Rattle.std.specs.List.{starts_with, slice_split, onto_first}
use Rattle.support.specs.Limits.{items}
use Rattle.values.specs.declared.refusal.OperationRefusal.{OperationRefusal}
use Rattle.values.specs.declared.refusal.OperationRefusal.TheVariants as refusal
use Rattle.values.specs.texts.Strip.{is_blank}

-- Returns the parts of a text after skipping `passed` bytes, which belong to a separator. A part ends where the next separator begins.
abbrev pub parts_after : ℕ → List ℕ → List ℕ → List (List ℕ)
parts_after passed separator [] = [] ∷ []
parts_after zero separator (b ∷ bs) =
    if starts_with nat_eq (b ∷ bs) separator then [] ∷ parts_after (length separator - 1) separator bs
    else onto_first b (parts_after zero separator bs)
parts_after (suc passed) separator (b ∷ bs) = parts_after passed separator bs

-- Returns the parts of a text between separators, including empty parts. Separators are found from the left and never overlap.
abbrev pub parts : List ℕ → List ℕ → List (List ℕ)
parts separator text = parts_after zero separator text

-- Holds if a text is not empty.
abbrev pub is_filled : List ℕ → Bool
is_filled [] = false
is_filled (b ∷ bs) = true

-- Returns the words of a text: the parts between white space that are not empty.
abbrev pub words : List ℕ → List (List ℕ)
words text = filter is_filled (slice_split is_blank text)

-- Returns the lines of a text that follows a carriage return (`returned`) or anything else. A newline or a carriage return ends a line; a
-- newline directly after a carriage return belongs to the same line ending. There is no line after the last line ending.
abbrev pub lines_after : Bool → List ℕ → List (List ℕ)
lines_after returned [] = []
lines_after returned (b ∷ bs) =
    if b == code "\n" then (if returned then lines_after false bs else [] ∷ lines_after false bs)
    else if b == code "\r" then [] ∷ lines_after true bs
    else onto_first b (lines_after false bs)

-- Holds if a byte is a newline or a carriage return.
abbrev pub is_line_end : ℕ → Bool
is_line_end b = b == code "\n" || b == code "\r"

-- Returns the lines of a text.
abbrev pub lines : List ℕ → List (List ℕ)
lines text = lines_after false text

-- Returns the pieces if a list can hold that many, and otherwise the refusal.
abbrev pub within_items : List (List ℕ) → Result (List (List ℕ)) OperationRefusal
within_items pieces = if nat_le (length pieces) items then Ok pieces else Err refusal.Limit

-- Returns the parts of a text between separators, or the refusal if the separator is empty or there are too many parts.
abbrev pub split_at : List ℕ → List ℕ → Result (List (List ℕ)) OperationRefusal
split_at text separator = if length separator == 0 then Err refusal.Arguments else within_items (parts separator text)
