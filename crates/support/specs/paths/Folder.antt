-- Defines the folder that a stack of parts means.
use Rattle.std.specs.Prelude.{ℕ, List, map, reverse, String, string_bytes}
use Rattle.std.specs.declared.alloc.Global.{Global}
use Rattle.std.specs.declared.vec.Vec.{Vec}
use denote.Ref.{Bor}

-- Returns the parts of the folder, from the last to the first.
abbrev pub folder_of : Vec (Bor (List ℕ)) Global → List (List ℕ)
folder_of stack = reverse (map (λ part. part.now) stack.items)

-- Returns the bytes of each string.
abbrev pub strings_of : Vec (String Global) Global → List (List ℕ)
strings_of strings = map string_bytes strings.items
