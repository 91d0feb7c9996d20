-- Defines lists of texts.
use Rattle.std.specs.Prelude.{ℕ, List, map, String, string_bytes}
use Rattle.std.specs.Global.{Global}

-- Returns the bytes of each of these strings.
abbrev pub texts : List (String Global) → List (List ℕ)
texts strings = map string_bytes strings
