use Rattle.std.proofs.Common.{◌≡◌, ◌++◌, map, take, string_bytes}
use Rattle.values.proofs.copies.push_strings.Given as goal

abbrev pub invariant-loop-text : goal.invariant-loop-text
invariant-loop-text l = map string_bytes l.strings.items ≡ map string_bytes l.fn.strings.items ++ take l.text-index l.texts
