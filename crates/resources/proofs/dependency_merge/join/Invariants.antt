use Rattle.std.proofs.Common.{◌≡◌, map, drop}
use Rattle.resources.specs.Joined.{with_all}
use Rattle.resources.proofs.dependency_merge.join.Given as goal

-- what is left makes the whole
abbrev pub invariant-loop-other : goal.invariant-loop-other
invariant-loop-other l =
    with_all l.all (map (λ d. d.now) (drop l.other-index l.others)) ≡ with_all l.fn.dependency (map (λ d. d.now) l.others)
