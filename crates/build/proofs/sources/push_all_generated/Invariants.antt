use Rattle.std.proofs.Common.{◌≡◌, ◌++◌, map, take}
use Rattle.std.specs.Prelude.{flat_map}
use Rattle.build.specs.edge.Texts.{texts}
use Rattle.build.specs.Sources.{generated_in}
use Rattle.build.specs.View.{source_view}
use Rattle.build.proofs.sources.push_all_generated.Given as goal

abbrev pub invariant-loop-source : goal.invariant-loop-source
invariant-loop-source l = texts l.paths.items ≡ texts l.fn.paths.items ++ flat_map generated_in (map source_view (take l.source-index l.sources))
