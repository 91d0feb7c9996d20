use Rattle.std.proofs.Common.{◌≡◌, take}
use Rattle.values.proofs.equal.equal_sources.Given as goal

abbrev pub invariant-loop-i : goal.invariant-loop-i
invariant-loop-i l = take l.i l.sources ≡ take l.i l.others
