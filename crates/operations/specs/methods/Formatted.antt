-- Defines `format`: a text whose placeholders are filled with values.
use Rattle.std.specs.Prelude.{ℕ, Bool, true, List, [], Option, Some, None, option_and_then, is_some, slice_get, Result, Err, if◌then◌else◌}
use Rattle.std.specs.List.{list_all, flat_map}
use Rattle.values.specs.declared.refusal.OperationRefusal.{OperationRefusal}
use Rattle.values.specs.declared.refusal.OperationRefusal.TheVariants as refusal
use Rattle.values.specs.Data.{Data}
use Rattle.values.specs.Limits.{within_bytes}
use Rattle.values.specs.printing.Printed.{is_printable, text_of_value}
use Rattle.values.specs.declared.texts.placeholders.Places.TheVariants as places
use Rattle.values.specs.texts.Segments.{Segment, text, place, segments, place_number}

-- Returns the value that a placeholder refers to by its number, counted from 0.
abbrev pub value_at : List Data → List ℕ → Option Data
value_at values name = option_and_then (slice_get values) (place_number name)

-- Holds if a segment is text, or a placeholder with a value.
abbrev pub has_value : List Data → Segment → Bool
has_value values (text t) = true
has_value values (place name) = is_some (value_at values name)

-- Returns the printed value, and nothing if there is no value.
abbrev pub shown_or_none : Option Data → List ℕ
shown_or_none None = []
shown_or_none (Some d) = text_of_value d

-- Returns a segment with its placeholder filled: text stays as it is, and a placeholder becomes the printed value.
abbrev pub text_of_filled_segment : List Data → Segment → List ℕ
text_of_filled_segment values (text t) = t
text_of_filled_segment values (place name) = shown_or_none (value_at values name)

-- Returns the formatted text. No value may be or contain an object, even if no placeholder refers to it. Each placeholder needs a value,
-- and the result must be within the limit of a text.
abbrev pub formatted_text : List ℕ → List Data → Result (List ℕ) OperationRefusal
formatted_text t values =
    if list_all is_printable values then
    (if list_all (has_value values) (segments places.Numbers t)
    then within_bytes (flat_map (text_of_filled_segment values) (segments places.Numbers t))
    else Err refusal.Absent)
    else Err refusal.Arguments
