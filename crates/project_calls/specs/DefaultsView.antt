-- Defines the view of texts.
use Rattle.std.specs.Prelude.{ℕ, List, map, string_bytes, String}
use Rattle.std.specs.declared.alloc.Global.{Global}
use Rattle.std.specs.declared.vec.Vec.{Vec}

-- Returns the bytes of each string.
abbrev pub strings_of : Vec (String Global) Global → List (List ℕ)
strings_of strings = map string_bytes strings.items
