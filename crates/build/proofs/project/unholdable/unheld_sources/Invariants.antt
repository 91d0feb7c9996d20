use Rattle.std.proofs.Common.{◌≡◌, map, drop}
use Rattle.build.specs.View.{source_view}
use Rattle.build.specs.project.Unheld.{unheld_sources}
use Rattle.build.proofs.project.unholdable.unheld_sources.Given as goal

-- what is left decides
abbrev pub invariant-loop-source : goal.invariant-loop-source
invariant-loop-source l = unheld_sources (map source_view (drop l.source-index l.sources)) ≡ unheld_sources (map source_view l.sources)
