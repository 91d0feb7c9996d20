use Rattle.std.proofs.Common.{◌≡◌, map, drop}
use Rattle.build.specs.View.{target_view}
use Rattle.build.specs.project.Adding.{first_build}
use Rattle.build.proofs.project.project.first_build.Given as goal

-- what is left decides
abbrev pub invariant-loop-linked : goal.invariant-loop-linked
invariant-loop-linked l = first_build (map (λ x. target_view x.target) (drop l.linked-index l.targets)) ≡ first_build (map (λ x. target_view x.target) l.targets)
