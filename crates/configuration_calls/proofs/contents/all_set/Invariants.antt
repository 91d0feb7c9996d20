use Rattle.std.proofs.Common.{◌≡◌, [], false, drop}
use Rattle.values.specs.View.{items_of}
use Rattle.configuration_calls.specs.Contents.{all_set}
use Rattle.configuration_calls.proofs.contents.all_set.Given as goal

-- the values so far, and the names and values that are left, decide
abbrev pub invariant-loop-i : goal.invariant-loop-i
invariant-loop-i l = (l.held.frozen ≡ false)
    × (all_set l.held.entries (drop l.i l.names) (items_of (drop l.i l.values)) ≡ all_set [] l.names (items_of l.values))
