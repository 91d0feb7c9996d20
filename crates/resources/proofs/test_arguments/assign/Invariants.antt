use Rattle.std.proofs.Common.{◌≡◌, [], drop}
use Rattle.values.specs.View.{items_of}
use Rattle.resources.specs.Testing.{assigned_behind}
use Rattle.resources.specs.TestingView.{strings_of}
use Rattle.resources.proofs.test_arguments.assign.Given as goal

-- the variables so far, and the names and values that are left, decide
abbrev pub invariant-loop-i : goal.invariant-loop-i
invariant-loop-i l =
    assigned_behind (strings_of l.texts) (drop l.i l.names) (items_of (drop l.i l.values)) ≡ assigned_behind [] l.names (items_of l.values)
