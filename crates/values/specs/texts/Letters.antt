-- Defines `underscorify`.
use Prim.Native.Char.{code}
use Rattle.std.specs.Prelude.{ℕ, List, map, if◌then◌else◌}
use Rattle.std.specs.Char.{is_ascii_alphanumeric}
use Rattle.std.specs.Str.{chars, encode_utf8_all}

-- Returns an underscore for a character that is neither an ASCII letter nor an ASCII digit, and any other character unchanged.
abbrev pub underscored_character : ℕ → ℕ
underscored_character c = if is_ascii_alphanumeric c then c else code "_"

-- Returns a text with underscores in place of all characters other than ASCII letters and digits.
abbrev pub underscorified_text : List ℕ → List ℕ
underscorified_text text = encode_utf8_all (map underscored_character (chars text))
