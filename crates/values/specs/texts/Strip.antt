-- Defines `strip`: a text without some characters at its ends.
use Prim.Native.Char.{code}
use Rattle.std.specs.Prelude.{ℕ, Bool, ◌||◌, ◌&&◌, List, [], ◌∷◌, reverse, nat_le, nat_eq, ◌==◌, if◌then◌else◌}
use Rattle.std.specs.List.{list_any}
use Rattle.std.specs.HashSet.{contains}
use Rattle.std.specs.Str.{chars, encode_utf8_all}
use Rattle.values.specs.declared.texts.ends.Set.{Set}
use Rattle.values.specs.declared.texts.ends.Set.TheVariants as set

-- Holds if a character is ASCII white space: tab, newline, vertical tab, form feed, carriage return or space.
abbrev pub is_blank : ℕ → Bool
is_blank c = (nat_le (code "\t") c && nat_le c (code "\r")) || c == code " "

-- Holds if a character occurs in a text.
abbrev pub is_among : List ℕ → ℕ → Bool
is_among text c = list_any (nat_eq c) (chars text)

-- Holds if a character is in a set.
abbrev pub is_in : Set → ℕ → Bool
is_in set.Blanks c = is_blank c
is_in (set.Given given) c = contains nat_eq given c

-- Returns the characters without the leading ones that pass.
abbrev pub without_first : (ℕ → Bool) → List ℕ → List ℕ
without_first passes [] = []
without_first passes (c ∷ cs) = if passes c then without_first passes cs else c ∷ cs

-- Returns the characters without the trailing ones that pass.
abbrev pub without_last : (ℕ → Bool) → List ℕ → List ℕ
without_last passes cs = reverse (without_first passes (reverse cs))

-- Returns a text without the characters at its two ends that pass.
abbrev pub stripped_text : (ℕ → Bool) → List ℕ → List ℕ
stripped_text passes text = encode_utf8_all (without_last passes (without_first passes (chars text)))
