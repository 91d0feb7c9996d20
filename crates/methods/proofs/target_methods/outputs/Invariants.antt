use Rattle.std.proofs.Common.{◌≡◌, ◌-◌}
use Rattle.values.specs.Data.{items_append}
use Rattle.values.specs.View.{items_of}
use Rattle.methods.specs.Targets.{outputs_from}
use Rattle.methods.proofs.target_methods.outputs.Given as goal

-- those so far and those that are left are all
abbrev pub invariant-loop-output : goal.invariant-loop-output
invariant-loop-output l =
    items_append (items_of l.outputs.items) (outputs_from l.target (l.count - l.output) l.output) ≡ outputs_from l.target l.count 0
