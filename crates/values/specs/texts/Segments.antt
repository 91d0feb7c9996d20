-- Defines texts with placeholders: `@0@` in `format`, and `@name@` in an f-string.
use Prim.Native.Char.{code}
use Rattle.std.specs.Prelude.{ℕ, zero, suc, ◌+◌, ◌^◌, ◌&&◌, ◌||◌, Bool, List, [], ◌∷◌, ◌++◌, length, take, Option, Some, None}
use Rattle.std.specs.Prelude.{slice_index, nat_lt, codes, ◌==◌, if◌then◌else◌}
use Rattle.std.specs.Char.{is_ascii_digit, is_ascii_alphabetic, is_ascii_alphanumeric}
use Rattle.std.specs.List.{prefix_len, list_all}
use Rattle.std.specs.Str.Parse.{digits_value}
use Rattle.values.specs.declared.texts.placeholders.Places.{Places}
use Rattle.values.specs.declared.texts.placeholders.Places.TheVariants as places
use Rattle.values.specs.declared.texts.placeholders.Segment.{Segment as SegmentOfText}
use Rattle.values.specs.declared.texts.placeholders.Segment.TheVariants as segment

-- A segment is a stretch of text between placeholders, or the name between the two `@` of a placeholder.
pub data Segment : Type 0 where
  text : List ℕ → Segment
  place : List ℕ → Segment

-- Holds if a name can begin with this byte: a letter or an underscore.
abbrev pub is_name_start : ℕ → Bool
is_name_start b = is_ascii_alphabetic b || b == code "_"

-- Holds if a byte may be in a name: a letter, a digit or an underscore.
abbrev pub is_name_byte : ℕ → Bool
is_name_byte b = is_ascii_alphanumeric b || b == code "_"

-- Returns how many bytes at the start of a text can name a placeholder.
abbrev pub name_length : Places → List ℕ → ℕ
name_length places.Numbers bs = prefix_len is_ascii_digit bs
name_length places.Names [] = 0
name_length places.Names (b ∷ bs) = if is_name_start b then prefix_len is_name_byte (b ∷ bs) else 0

-- Returns the length of the name if a text begins with a placeholder, and 0 otherwise.
abbrev pub place_length : Places → List ℕ → ℕ
place_length kind [] = 0
place_length kind (b ∷ bs) = if b == code "@" && slice_index bs (name_length kind bs) == code "@" then name_length kind bs else 0

-- Returns segments with one more byte of text before them.
abbrev pub onto_text : ℕ → List Segment → List Segment
onto_text b (text t ∷ ss) = text (b ∷ t) ∷ ss
onto_text b ss = text (b ∷ []) ∷ ss

-- Returns the segments of a text after skipping some bytes, which belong to a placeholder.
abbrev pub segments_after : ℕ → Places → List ℕ → List Segment
segments_after passed kind [] = []
segments_after zero kind (b ∷ bs) =
    if place_length kind (b ∷ bs) == 0 then onto_text b (segments_after zero kind bs)
    else place (take (place_length kind (b ∷ bs)) bs) ∷ segments_after (place_length kind (b ∷ bs) + 1) kind bs
segments_after (suc passed) kind (b ∷ bs) = segments_after passed kind bs

-- Returns the segments of a text. Placeholders are found from the left and never overlap.
abbrev pub segments : Places → List ℕ → List Segment
segments kind t = segments_after zero kind t

-- Returns a text as one segment, and no segment if it is empty.
abbrev pub text_segments : List ℕ → List Segment
text_segments [] = []
text_segments (b ∷ bs) = text (b ∷ bs) ∷ []

-- Returns how a segment is spelled in the text.
abbrev pub text_of_segment : Segment → List ℕ
text_of_segment (text t) = t
text_of_segment (place name) = codes "@" ++ (name ++ codes "@")

-- Holds if a name is at least one digit and nothing else.
abbrev pub is_number : List ℕ → Bool
is_number name = nat_lt 0 (length name) && list_all is_ascii_digit name

-- Returns the number that digits spell, if a `usize` can hold it.
abbrev pub place_number : List ℕ → Option ℕ
place_number name = if is_number name && nat_lt (digits_value 10 name) (2 ^ 64) then Some (digits_value 10 name) else None

-- ---- segments that the code makes

-- Returns the segment of the definition for a segment of the code.
abbrev pub segment_data : SegmentOfText → Segment
segment_data (segment.Text t) = text t.now
segment_data (segment.Place name) = place name.now
