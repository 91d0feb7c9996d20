use Rattle.std.proofs.Common.{◌≡◌, map, drop}
use Rattle.values.specs.View.{data_of}
use Rattle.arguments.specs.Disablers.{one_has_disabler}
use Rattle.arguments.proofs.disablers.one_has_disabler.Given as goal

-- what is left decides
abbrev pub invariant-loop-value : goal.invariant-loop-value
invariant-loop-value l = one_has_disabler (map data_of (drop l.value-index l.values)) ≡ one_has_disabler (map data_of l.values)
