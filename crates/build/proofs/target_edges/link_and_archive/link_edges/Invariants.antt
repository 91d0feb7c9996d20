use Rattle.std.proofs.Common.{◌≡◌, map, take}
use Rattle.build.specs.edge.Texts.{texts}
use Rattle.build.specs.edge.View.{edge_view}
use Rattle.build.specs.target_edges.Edges.{symlink_edge}
use Rattle.build.proofs.target_edges.link_and_archive.link_edges.Given as goal

abbrev pub invariant-loop-link : goal.invariant-loop-link
invariant-loop-link l = map edge_view l.edges.items ≡ map (symlink_edge l.file l.name) (texts (take l.link-index l.links))
