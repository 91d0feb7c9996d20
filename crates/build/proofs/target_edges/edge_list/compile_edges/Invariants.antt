use Rattle.std.proofs.Common.{◌≡◌, map, string_bytes, take}
use Rattle.build.specs.edge.Texts.{texts}
use Rattle.build.specs.edge.View.{edge_view}
use Rattle.build.specs.Inputs.{input_view}
use Rattle.build.specs.target_edges.Parts.{joined_edge}
use Rattle.build.proofs.target_edges.edge_list.compile_edges.Given as goal

abbrev pub invariant-loop-input : goal.invariant-loop-input
invariant-loop-input l =
    let p = l.parts in
    map edge_view l.edges.items
    ≡ map (joined_edge (texts p.words.items) (texts p.generated.items) (string_bytes p.file)) (map input_view (take l.input-index p.inputs.items))
