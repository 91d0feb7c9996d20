use Rattle.world.specs.Ruled.{obeyed_rule}
use Rattle.world.proofs.Answering.{need_yes, need_no}
use Rattle.world.proofs.caller.Caller.obey.Goals as goal

pub returns-then-is_so : goal.returns-then-is_so
unfolding obeyed_rule
returns-then-is_so g c = need_yes _ _ _ c.if-is_so.true

pub returns-else-is_so : goal.returns-else-is_so
unfolding obeyed_rule
returns-else-is_so g c = need_no _ _ _ c.if-is_so.false c.refuse_by.ensures
