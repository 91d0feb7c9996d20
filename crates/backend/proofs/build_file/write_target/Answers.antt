use Rattle.ports.specs.Outputs.{puts}
use Rattle.ninja.specs.Writing.{edges_text}
use Rattle.build.specs.target_edges.PartsView.{parts_edges}
use Rattle.backend.specs.Parts.{target_steps}
use Rattle.backend.proofs.TargetTexts.{target_is}
use Rattle.ninja.proofs.Puts.{writes_over}
use Rattle.backend.proofs.Stopping.{writes_wants}
use Rattle.backend.proofs.build_file.write_target.Goals as goal

pub returns-in_err-parts : goal.returns-in_err-parts
returns-in_err-parts g c =
    writes_wants _ (g.O.Outputs.seen c.args.out.now) (target_steps c.args.project.now c.args.number) c.from_residual.ensures.1

pub returns : goal.returns
returns g c =
    let w = c.args.project.now in
    let p = c.in_ok-parts.parts in
    writes_over (puts (edges_text (parts_edges p))) (target_steps w c.args.number) (target_is w c.args.number p c.in_ok-parts.ensures) c.write_parts_of.ensures
