use Rattle.std.proofs.Common.{◌≡◌, drop}
use Rattle.values.specs.View.{items_of}
use Rattle.values.specs.Data.{have_disabler}
use Rattle.values.proofs.value.have_disabler.Given as goal

-- what is left decides
abbrev pub invariant-loop-value : goal.invariant-loop-value
invariant-loop-value l = have_disabler (items_of (drop l.value-index l.values)) ≡ have_disabler (items_of l.values)
