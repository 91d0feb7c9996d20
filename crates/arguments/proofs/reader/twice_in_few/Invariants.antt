use Rattle.std.proofs.Common.{◌≡◌, map, take, drop}
use Rattle.arguments.specs.Misfits.{again, twice}
use Rattle.arguments.specs.Arguments.{named_data}
use Rattle.arguments.proofs.Names.{names_in}
use Rattle.arguments.proofs.reader.twice_in_few.Given as goal

-- the names so far stand once
abbrev pub invariant-loop-i : goal.invariant-loop-i
invariant-loop-i l = again (names_in (take l.i l.named)) (map named_data (drop l.i l.named)) ≡ twice (map named_data l.named)
