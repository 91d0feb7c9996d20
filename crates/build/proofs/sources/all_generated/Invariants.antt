use Rattle.std.proofs.Common.{◌≡◌, ◌++◌, map, take}
use Rattle.std.specs.Prelude.{flat_map}
use Rattle.build.specs.edge.Texts.{texts}
use Rattle.build.specs.Sources.{generated_in}
use Rattle.build.specs.View.{source_view}
use Rattle.build.proofs.sources.all_generated.Given as goal

abbrev pub invariant-loop-lists : goal.invariant-loop-lists
invariant-loop-lists l =
    texts l.paths.items
    ≡ flat_map generated_in (map source_view l.target.own.sources.items)
    ++ flat_map (λ d. flat_map generated_in (map source_view d.value.sources.items)) (take l.lists-index l.target.dependencies.items)
