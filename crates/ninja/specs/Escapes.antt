-- Defines how Ninja's text escapes paths and values, with a `$` before what would end them or have another meaning.
use Prim.Native.Char.{code}
use Rattle.std.specs.Prelude.{ℕ, Bool, false, ◌==◌, ◌||◌, List, [], ◌∷◌, ◌++◌, codes, if◌then◌else◌}
use Rattle.std.specs.List.{flat_map}

-- ---- paths

-- Returns whether the byte is a dollar sign, a space or a colon.
abbrev pub wants_dollar : ℕ → Bool
wants_dollar b = (b == code "$") || ((b == code " ") || (b == code ":"))

-- Returns a byte of a path, after a `$` if it needs one.
abbrev pub path_byte_text : ℕ → List ℕ
path_byte_text b = if wants_dollar b then code "$" ∷ b ∷ [] else b ∷ []

-- Returns the text of a path.
abbrev pub path_text : List ℕ → List ℕ
path_text bytes = flat_map path_byte_text bytes

-- ---- values

-- Doubles a dollar sign.
abbrev pub value_byte_text : ℕ → List ℕ
value_byte_text b = if b == code "$" then codes "$$" else b ∷ []

-- Returns a value with its dollar signs doubled.
abbrev pub value_rest_text : List ℕ → List ℕ
value_rest_text bytes = flat_map value_byte_text bytes

-- Returns whether the first byte is a space. It is false for no bytes.
abbrev pub starts_with_space : List ℕ → Bool
starts_with_space [] = false
starts_with_space (b ∷ bs) = b == code " "

-- Returns the dollar sign before a leading space, which Ninja would drop otherwise.
abbrev pub leading_dollar : List ℕ → List ℕ
leading_dollar bytes = if starts_with_space bytes then codes "$" else []

-- Returns the text of a value.
unfoldable pub value_text : List ℕ → List ℕ
value_text bytes = leading_dollar bytes ++ value_rest_text bytes
