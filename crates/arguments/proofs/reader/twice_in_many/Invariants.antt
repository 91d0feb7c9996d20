use Rattle.std.proofs.Common.{◌≡◌, map, drop, string_bytes}
use Rattle.arguments.specs.Misfits.{again, twice}
use Rattle.arguments.specs.Arguments.{named_data}
use Rattle.arguments.proofs.reader.twice_in_many.Given as goal

-- the names so far stand once
abbrev pub invariant-loop-one : goal.invariant-loop-one
invariant-loop-one l =
    again (map string_bytes l.names.keys) (map named_data (drop l.one-index l.named)) ≡ twice (map named_data l.named)
