-- Paths are as many as the strings that hold them.
use Rattle.std.proofs.Common.{◌≡◌, List, [], ◌∷◌, length, map, String, Global, string_bytes, refl, ap, suc}

pub as_many : (strings : List (String Global)) → length (map string_bytes strings) ≡ length strings
as_many [] = refl
as_many (s ∷ ss) = ap suc (as_many ss)
