use Rattle.std.proofs.Common.{◌≡◌, map, drop}
use Rattle.arguments.specs.Row.{value_named}
use Rattle.arguments.specs.Arguments.{named_data}
use Rattle.arguments.proofs.readers.value_named.Given as goal

-- what is left decides
abbrev pub invariant-loop-one : goal.invariant-loop-one
invariant-loop-one l = value_named l.name (map named_data (drop l.one-index l.named)) ≡ value_named l.name (map named_data l.named)
