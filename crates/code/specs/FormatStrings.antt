-- Defines f-strings by their parts.
use Rattle.std.specs.Prelude.{◌≡◌, ℕ, List, map, string_bytes}
use Rattle.std.specs.List.{flat_map}
use Rattle.values.specs.declared.texts.placeholders.Places.TheVariants as places
use Rattle.values.specs.texts.Segments.{Segment, text, place, segments, text_of_segment}
use Rattle.code.specs.declared.format_string.Part.{Part}
use Rattle.code.specs.declared.format_string.Part.TheVariants as parts

-- Returns the segment that a part means.
abbrev pub part_data : Part → Segment
part_data (parts.Text t) = text (string_bytes t)
part_data (parts.Place name number) = place (string_bytes name)

-- Returns the text that has these parts.
abbrev pub text_of_parts : List Part → List ℕ
text_of_parts ps = flat_map text_of_segment (map part_data ps)

-- Holds if the parts are the placeholders of that text and the text between them.
abbrev pub is_split : List Part → Type 0
is_split ps = map part_data ps ≡ segments places.Names (text_of_parts ps)
