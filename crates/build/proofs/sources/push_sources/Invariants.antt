use Rattle.std.proofs.Common.{◌≡◌, ◌++◌, map, take}
use Rattle.std.specs.Prelude.{flat_map}
use Rattle.build.specs.Sources.{c_inputs_in}
use Rattle.build.specs.View.{source_view}
use Rattle.build.specs.Inputs.{input_view}
use Rattle.build.proofs.sources.push_sources.Given as goal

abbrev pub invariant-loop-source : goal.invariant-loop-source
invariant-loop-source l = map input_view l.inputs.items ≡ map input_view l.fn.inputs.items ++ flat_map (c_inputs_in l.depth) (map source_view (take l.source-index l.sources))
