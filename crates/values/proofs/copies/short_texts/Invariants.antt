use Rattle.std.proofs.Common.{◌≡◌, ◌++◌, drop, map, string_bytes}
use Rattle.values.specs.Copies.{are_short}
use Rattle.values.proofs.copies.short_texts.Given as goal

-- the texts so far and what is left are all, and what is left decides
abbrev pub invariant-loop-string : goal.invariant-loop-string
invariant-loop-string l =
    (l.texts ++ map string_bytes (drop l.string-index l.strings) ≡ map string_bytes l.strings)
    × (are_short (map string_bytes (drop l.string-index l.strings)) ≡ are_short (map string_bytes l.strings))
