use Rattle.build.proofs.LinkedLists.{target_got, target_missed}
use Rattle.build.proofs.libraries.target_at.Goals as goal

pub returns-in-Some : goal.returns-in-Some
returns-in-Some c = target_got c.args.earlier.now c.args.number c.in-Some.linked.now c.in-Some.ensures.lookup.0 c.in-Some.ensures.lookup.1

pub returns-in-None : goal.returns-in-None
returns-in-None c = target_missed c.args.earlier.now c.args.number c.in-None.ensures.lookup.0
