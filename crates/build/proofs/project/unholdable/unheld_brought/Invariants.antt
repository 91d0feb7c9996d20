use Rattle.std.proofs.Common.{◌≡◌, map, drop}
use Rattle.build.specs.View.{lists_view}
use Rattle.build.specs.project.Unheld.{unheld_brought}
use Rattle.build.proofs.project.unholdable.unheld_brought.Given as goal

-- what is left decides
abbrev pub invariant-loop-lists : goal.invariant-loop-lists
invariant-loop-lists l =
    unheld_brought (map (λ r. lists_view r.value) (drop l.lists-index l.dependencies)) ≡ unheld_brought (map (λ r. lists_view r.value) l.dependencies)
