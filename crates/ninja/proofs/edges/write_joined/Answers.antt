use Rattle.std.proofs.Common.{◌++◌}
use Rattle.ports.specs.Outputs.{puts}
use Rattle.build.specs.edge.Own.{own_view, shared_view}
use Rattle.build.specs.edge.Parts.{edge_of_parts}
use Rattle.ninja.specs.Steps.{own_bindings_steps, own_build_steps, shared_steps}
use Rattle.ninja.specs.Writing.{edge_text}
use Rattle.ninja.proofs.EdgeSteps.{joined_block_is}
use Rattle.ninja.proofs.Puts.{writes_over}
use Rattle.ninja.proofs.edges.write_joined.Goals as goal

pub returns : goal.returns
returns g c =
    let s = c.args.shared.now in
    let o = c.args.own.now in
    writes_over (own_build_steps s o ++ (shared_steps s ++ own_bindings_steps o)) (puts (edge_text (edge_of_parts (shared_view s) (own_view o))))
    (joined_block_is s o c.requires.first) c.write_joined_block.ensures
