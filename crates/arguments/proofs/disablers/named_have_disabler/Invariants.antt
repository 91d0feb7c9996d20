use Rattle.std.proofs.Common.{◌≡◌, map, drop}
use Rattle.arguments.specs.Arguments.{named_data}
use Rattle.arguments.specs.Disablers.{named_have_disabler}
use Rattle.arguments.proofs.disablers.named_have_disabler.Given as goal

-- what is left decides
abbrev pub invariant-loop-one : goal.invariant-loop-one
invariant-loop-one l = named_have_disabler (map named_data (drop l.one-index l.named)) ≡ named_have_disabler (map named_data l.named)
