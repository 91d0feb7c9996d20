use Rattle.std.proofs.Common.{◌≡◌, ◌++◌, map, take}
use Rattle.std.specs.Prelude.{flat_map}
use Rattle.build.specs.edge.Texts.{texts}
use Rattle.build.specs.Sources.{c_input, own_input}
use Rattle.build.specs.Inputs.{input_view}
use Rattle.build.proofs.sources.push_made.Given as goal

abbrev pub invariant-loop-path : goal.invariant-loop-path
invariant-loop-path l = map input_view l.inputs.items ≡ map input_view l.fn.inputs.items ++ flat_map c_input (map own_input (texts (take l.path-index l.paths)))
