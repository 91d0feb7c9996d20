use Rattle.std.proofs.Common.{◌≡◌, map, take}
use Rattle.std.specs.Prelude.{flat_map}
use Rattle.build.specs.edge.Texts.{texts}
use Rattle.build.specs.Sources.{source_paths}
use Rattle.build.specs.View.{source_view}
use Rattle.build.proofs.sources.source_paths.Given as goal

abbrev pub invariant-loop-source : goal.invariant-loop-source
invariant-loop-source l = texts l.paths.items ≡ flat_map (source_paths l.depth) (map source_view (take l.source-index l.sources))
