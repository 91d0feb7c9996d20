use Rattle.std.proofs.Common.{take}
use Rattle.std.specs.List.{flat_map}
use Rattle.ports.specs.Endings.{Whole}
use Rattle.ports.specs.Outputs.{Writes, puts}
use Rattle.build.specs.edge.View.{edge_view}
use Rattle.ninja.specs.Writing.{edge_text}
use Rattle.backend.proofs.build_file.write_edges.Given as goal

abbrev pub invariant-loop-edge : goal.invariant-loop-edge
invariant-loop-edge g l = Writes (g.O.Outputs.seen l.fn.out) (flat_map (λ e. puts (edge_text (edge_view e))) (take l.edge-index l.edges)) Whole (g.O.Outputs.seen l.out)
