-- Defines substrings by indexes that count characters.
use Rattle.std.specs.Prelude.{ℕ, suc, ◌-◌, min, ℤ, pos, negsuc, List, length, take, drop, Option, Some, None}
use Rattle.std.specs.Str.{chars, encode_utf8_all}

-- Returns the position that an index denotes among `count` characters. A negative index counts from the end; the position is clamped to the
-- range.
abbrev pub place : ℤ → ℕ → ℕ
place (pos n) count = min n count
place (negsuc n) count = count - suc n

-- Returns the position of an index, and `other` if there is no index.
abbrev pub place_or : Option ℤ → ℕ → ℕ → ℕ
place_or None count other = other
place_or (Some index) count other = place index count

-- Returns the items from one position up to another, and none if the end is before the start.
abbrev pub items_between : ℕ → ℕ → List ℕ → List ℕ
items_between start end items = take (end - start) (drop start items)

-- Returns the characters from one index up to another. A missing index means the start or the end.
abbrev pub characters_between : Option ℤ → Option ℤ → List ℕ → List ℕ
characters_between from to cs = items_between (place_or from (length cs) 0) (place_or to (length cs) (length cs)) cs

-- Returns the substring from one index up to another.
abbrev pub part : Option ℤ → Option ℤ → List ℕ → List ℕ
part from to text = encode_utf8_all (characters_between from to (chars text))
