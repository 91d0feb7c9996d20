use Rattle.std.proofs.Common.{◌≡◌, ◌++◌, take}
use Rattle.values.proofs.object.Numbers.extend.Given as goal

-- what has been put so far stands behind what was there
abbrev pub invariant-loop-number : goal.invariant-loop-number
invariant-loop-number l = l.self ≡ l.initial.self ++ take l.number-index l.others
