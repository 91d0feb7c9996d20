-- Defines the bytes of a text, whether it is short or long.
use Rattle.std.specs.Prelude.{ℕ, List}
use Rattle.values.specs.declared.text.Kept.{Kept}
use Rattle.values.specs.declared.text.Kept.TheVariants.{Short, Long}

-- Returns the bytes of a text.
abbrev pub bytes_of : Kept → List ℕ
bytes_of (Short s) = s
bytes_of (Long r) = r.value
