-- Defines the text for a byte, depending on where it is.
use Prim.Native.Char.{code}
use Rattle.std.specs.Prelude.{ℕ, Bool, ◌==◌, ◌||◌, not, List}
use Rattle.ninja.specs.declared.escapes.EscapeMode.{EscapeMode}
use Rattle.ninja.specs.declared.escapes.EscapeMode.TheVariants.{InPath, InValue, InQuotes}
use Rattle.ninja.specs.Escapes.{wants_dollar, path_byte_text, value_byte_text, value_rest_text}
use Rattle.ninja.specs.Words.{quoted_byte}

-- Returns the text for a byte. Within a shell's quotes, the byte is quoted first, and the result is in a value.
abbrev pub byte_text : EscapeMode → ℕ → List ℕ
byte_text InPath b = path_byte_text b
byte_text InValue b = value_byte_text b
byte_text InQuotes b = value_rest_text (quoted_byte b)

-- Returns whether the byte is written as itself.
abbrev pub stays : EscapeMode → ℕ → Bool
stays InPath b = not (wants_dollar b)
stays InValue b = not (b == code "$")
stays InQuotes b = not ((b == code "'") || (b == code "$"))
