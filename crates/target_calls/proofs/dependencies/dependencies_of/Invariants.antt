use Rattle.std.proofs.Common.{◌≡◌, [], map, drop}
use Rattle.values.specs.View.{data_of}
use Rattle.build.specs.DeclaredTargetViews.{declared_target_views}
use Rattle.build.specs.View.{lists_view}
use Rattle.target_calls.specs.Dependencies.{lists_behind}
use Rattle.target_calls.proofs.dependencies.dependencies_of.Given as goal

-- what was brought so far and the values that are left decide
abbrev pub invariant-loop-value : goal.invariant-loop-value
invariant-loop-value l =
    lists_behind (declared_target_views l.earlier) (map (λ m. lists_view m.value) l.all.items) (map (λ v. data_of v.now) (drop l.value-index l.values))
    ≡ lists_behind (declared_target_views l.earlier) [] (map (λ v. data_of v.now) l.values)
