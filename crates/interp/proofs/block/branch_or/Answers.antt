use Rattle.std.proofs.Common.{◌∙◌, sym}
use Rattle.interp.proofs.Blocks.{branch_is, no_branch}
use Rattle.interp.proofs.block.branch_or.Goals as goal

pub returns-then-part-branches : goal.returns-then-part-branches
returns-then-part-branches c = c.deref.ensures.value ∙ sym (branch_is c.args.otherwise.now c.args.branches.now c.args.part c.index-branches-part.result c.if-part-branches.true)

pub returns-else-part-branches : goal.returns-else-part-branches
returns-else-part-branches c = sym (no_branch c.args.otherwise.now c.args.branches.now c.args.part c.if-part-branches.false)
