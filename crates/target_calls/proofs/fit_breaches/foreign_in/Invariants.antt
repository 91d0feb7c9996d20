use Rattle.std.proofs.Common.{◌≡◌, map, drop}
use Rattle.build.specs.View.{source_view}
use Rattle.target_calls.specs.FitBreaches.{foreign_in}
use Rattle.target_calls.proofs.fit_breaches.foreign_in.Given as goal

-- what is left decides
abbrev pub invariant-loop-source : goal.invariant-loop-source
invariant-loop-source l = foreign_in (map source_view (drop l.source-index l.sources)) ≡ foreign_in (map source_view l.sources)
