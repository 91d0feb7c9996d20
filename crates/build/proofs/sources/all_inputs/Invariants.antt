use Rattle.std.proofs.Common.{◌≡◌, ◌++◌, map, take}
use Rattle.std.specs.Prelude.{flat_map}
use Rattle.build.specs.Sources.{c_inputs_in}
use Rattle.build.specs.View.{source_view}
use Rattle.build.specs.Inputs.{input_view}
use Rattle.build.proofs.sources.all_inputs.Given as goal

abbrev pub invariant-loop-lists : goal.invariant-loop-lists
invariant-loop-lists l =
    map input_view l.inputs.items
    ≡ flat_map (c_inputs_in l.depth) (map source_view l.target.own.sources.items)
    ++ flat_map (λ d. flat_map (c_inputs_in l.depth) (map source_view d.value.sources.items)) (take l.lists-index l.target.dependencies.items)
