use Rattle.std.proofs.Common.{◌≡◌, drop}
use Rattle.values.specs.View.{items_of}
use Rattle.project_calls.specs.Defaults.{first_unprinted}
use Rattle.project_calls.proofs.defaults.first_unprinted.Given as goal

-- the names and values that are left decide
abbrev pub invariant-loop-i : goal.invariant-loop-i
invariant-loop-i l = first_unprinted (drop l.i l.names) (items_of (drop l.i l.values)) ≡ first_unprinted l.names (items_of l.values)
