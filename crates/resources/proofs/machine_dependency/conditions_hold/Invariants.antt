use Rattle.std.proofs.Common.{◌≡◌, drop}
use Rattle.machine_file.specs.View.{strings_in}
use Rattle.resources.specs.Fitting.{conditions_hold}
use Rattle.resources.proofs.machine_dependency.conditions_hold.Given as goal

-- what is left decides
abbrev pub invariant-loop-condition : goal.invariant-loop-condition
invariant-loop-condition l =
    conditions_hold l.version (strings_in (drop l.condition-index l.conditions))
    ≡ conditions_hold l.version (strings_in l.conditions)
