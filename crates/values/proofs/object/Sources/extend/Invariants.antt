use Rattle.std.proofs.Common.{◌≡◌, ◌++◌, take}
use Rattle.values.proofs.object.Sources.extend.Given as goal

-- what has been put so far stands behind what was there
abbrev pub invariant-loop-source : goal.invariant-loop-source
invariant-loop-source l = l.self ≡ l.initial.self ++ take l.source-index l.others
