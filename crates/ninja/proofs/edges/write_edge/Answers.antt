use Rattle.std.proofs.Common.{◌++◌}
use Rattle.ports.specs.Outputs.{puts}
use Rattle.build.specs.edge.Own.{lent_view}
use Rattle.ninja.specs.Steps.{bindings_steps, build_steps}
use Rattle.ninja.specs.Writing.{edge_text}
use Rattle.ninja.proofs.EdgeBlocks.{edge_text_read}
use Rattle.ninja.proofs.EdgeSteps.{edge_is}
use Rattle.ninja.proofs.Puts.{writes_over}
use Rattle.ninja.proofs.WholeFile.{runs_words}
use Rattle.ninja.proofs.edges.write_edge.Goals as goal

pub returns-clause-text : goal.returns-clause-text
returns-clause-text g c =
    let e = c.args.edge.now in
    writes_over (build_steps e ++ bindings_steps e) (puts (edge_text (lent_view e))) (edge_is e) c.write_block.ensures

pub returns-clause-read : goal.returns-clause-read
returns-clause-read g c h m rest = edge_text_read m (lent_view c.args.edge.now) rest h

pub returns-clause-runs : goal.returns-clause-runs
returns-clause-runs g c h m rules = runs_words m (lent_view c.args.edge.now) rules h
