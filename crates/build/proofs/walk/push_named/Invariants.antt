use Rattle.std.proofs.Common.{◌≡◌, ◌++◌, map, take}
use Rattle.std.specs.Prelude.{flat_map}
use Rattle.build.specs.declared.walk.Step.TheVariants.{Enter}
use Rattle.build.proofs.walk.push_named.Given as goal

abbrev pub invariant-loop-lists : goal.invariant-loop-lists
invariant-loop-lists l =
    l.steps.items
    ≡ l.fn.steps.items ++ (map Enter l.target.own.link_with.items ++ flat_map (λ d. map Enter d.value.link_with.items) (take l.lists-index l.target.dependencies.items))
