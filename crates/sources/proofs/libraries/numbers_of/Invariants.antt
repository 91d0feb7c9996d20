use Rattle.std.proofs.Common.{◌≡◌, [], map, drop}
use Rattle.values.specs.View.{data_of}
use Rattle.arguments.specs.Each.{each_behind}
use Rattle.sources.specs.Libraries.{build_target_in}
use Rattle.sources.proofs.libraries.numbers_of.Given as goal

-- the numbers so far and the values that are left decide
abbrev pub invariant-loop-value : goal.invariant-loop-value
invariant-loop-value l =
    each_behind build_target_in l.numbers.items (map (λ v. data_of v.now) (drop l.value-index l.values))
    ≡ each_behind build_target_in [] (map (λ v. data_of v.now) l.values)
