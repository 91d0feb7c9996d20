use Rattle.std.proofs.Common.{◌≡◌, ◌+◌, min, take}
use Rattle.std.specs.List.{sum_by}
use Rattle.support.specs.Limits.{items}
use Rattle.build.specs.View.{lists_view}
use Rattle.build.specs.project.Adding.{length_in}
use Rattle.build.proofs.project.acceptance.length_up_to.Given as goal

abbrev pub invariant-loop-lists : goal.invariant-loop-lists
invariant-loop-lists l = l.count ≡ min (items + 1) (length_in l.which (lists_view l.target.own) + sum_by (λ d. length_in l.which (lists_view d.value)) (take l.lists-index l.target.dependencies.items))
