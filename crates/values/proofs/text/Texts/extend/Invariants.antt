use Rattle.std.proofs.Common.{◌≡◌, ◌++◌, take}
use Rattle.values.proofs.text.Texts.extend.Given as goal

-- what has been put so far stands behind what was there
abbrev pub invariant-loop-text : goal.invariant-loop-text
invariant-loop-text l = l.self ≡ l.initial.self ++ take l.text-index l.others
