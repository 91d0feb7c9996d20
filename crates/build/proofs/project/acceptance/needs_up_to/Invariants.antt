use Rattle.std.proofs.Common.{◌≡◌, ◌+◌, min, take}
use Rattle.std.specs.List.{sum_by}
use Rattle.support.specs.Limits.{items}
use Rattle.build.specs.View.{source_view}
use Rattle.build.specs.project.Adding.{paths_in}
use Rattle.build.proofs.project.acceptance.needs_up_to.Given as goal

abbrev pub invariant-loop-source : goal.invariant-loop-source
invariant-loop-source l = l.count ≡ min (items + 1) (sum_by (λ s. paths_in (source_view s)) (take l.source-index l.target.needs.items))
