use Rattle.std.proofs.Common.{◌≡◌, map, take, string_bytes}
use Rattle.project_calls.proofs.option_as_value.list_of.Given as goal

abbrev pub invariant-loop-string : goal.invariant-loop-string
invariant-loop-string l = map (λ t. t.now) l.texts.items ≡ map string_bytes (take l.string-index l.strings)
