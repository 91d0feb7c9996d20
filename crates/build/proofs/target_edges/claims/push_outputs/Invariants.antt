use Rattle.std.proofs.Common.{◌≡◌, ◌++◌, map, take}
use Rattle.std.specs.Prelude.{flat_map}
use Rattle.build.specs.edge.Data.{EdgeData}
use Rattle.build.specs.edge.Texts.{texts}
use Rattle.build.specs.edge.View.{edge_view}
use Rattle.build.proofs.target_edges.claims.push_outputs.Given as goal

abbrev pub invariant-loop-edge : goal.invariant-loop-edge
invariant-loop-edge l = texts l.paths.items ≡ texts l.fn.paths.items ++ flat_map (λ (e : EdgeData). e.outputs) (map edge_view (take l.edge-index l.edges))
