use Rattle.std.proofs.Common.{[], ap, ◌∙◌}
use Rattle.build.specs.edge.View.{edge_view}
use Rattle.build.specs.target_edges.Edges.{symlink_edge}
use Rattle.build.proofs.TextLists.{mapped_more}
use Rattle.build.proofs.target_edges.link_and_archive.link_edges.Goals as goal

pub loop-link-preserved : goal.loop-link-preserved
loop-link-preserved c =
    let edge = symlink_edge c.args.file.now c.args.name.now in
    mapped_more edge_view edge [] c.loop-link.edges.items c.push.new.self.items c.in_ok-naming_edge.field-0 c.args.links.now c.loop-link.link-index
    c.link-item.result c.loop-link-test.true c.link-item.is (c.in_ok-naming_edge.ensures ∙ ap edge c.deref.ensures) c.in_ok-push.ensures.items c.loop-link.invariant
