-- Defines texts as slices of one text.
use Rattle.std.specs.Prelude.{ℕ, ◌+◌, leb, Bool, List, map, take, drop, length}
use Rattle.std.specs.List.{list_all}
use Rattle.world.specs.declared.text_buffer.Span.{Span}

-- Returns the slice of a text.
abbrev pub piece : List ℕ → Span → List ℕ
piece whole s = take s.length (drop s.from whole)

-- Returns all slices of a text, in order.
abbrev pub pieces : List ℕ → List Span → List (List ℕ)
pieces whole spans = map (piece whole) spans

-- Holds if a slice is inside the text.
abbrev pub is_within : List ℕ → Span → Bool
is_within whole s = leb (s.from + s.length) (length whole)

-- Holds if all slices are inside the text.
abbrev pub are_within : List ℕ → List Span → Bool
are_within whole spans = list_all (is_within whole) spans
