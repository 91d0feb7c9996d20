use Rattle.std.proofs.Common.{◌≡◌, ◌++◌, map, take}
use Rattle.build.specs.declared.walk.Step.TheVariants.{Enter}
use Rattle.build.proofs.walk.push_steps.Given as goal

abbrev pub invariant-loop-number : goal.invariant-loop-number
invariant-loop-number l = l.steps.items ≡ l.fn.steps.items ++ map Enter (take l.number-index l.numbers)
