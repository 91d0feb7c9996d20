use Rattle.build.proofs.InOrder.{in_order}
use Rattle.build.proofs.project.project.edges_stand_in_order.Goals as goal

pub returns : goal.returns
returns c = in_order c.args.project.now.surroundings c.args.project.now.targets
