use Rattle.std.proofs.Common.{◌≡◌, map, drop}
use Rattle.build.specs.View.{lists_view}
use Rattle.target_calls.specs.FitBreaches.{foreign_among}
use Rattle.target_calls.proofs.fit_breaches.foreign_among.Given as goal

-- what is left decides
abbrev pub invariant-loop-one : goal.invariant-loop-one
invariant-loop-one l = foreign_among (map (λ r. lists_view r.value) (drop l.one-index l.lists)) ≡ foreign_among (map (λ r. lists_view r.value) l.lists)
