use Rattle.backend.proofs.Parts.{parts-build_steps}
use Rattle.backend.proofs.build_file.write_build_file.Goals as goal

pub returns : goal.returns
returns g c = rw (parts-build_steps c.args.project.now c.edges_stand_in_order.ensures) at c.write_parts.ensures
