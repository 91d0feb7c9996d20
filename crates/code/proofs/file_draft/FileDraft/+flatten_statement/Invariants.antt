use Rattle.std.proofs.Common.{◌+◌, ◌*◌, map, max, take}
use denote.Param.Weighed.{most}
use Rattle.syntax.specs.declared.tree.Statement.TheViews.{size-Branch, size-Statement}
use Rattle.syntax.specs.Tree.{statement_of, branch_of}
use Rattle.code.specs.FileDraft.{Extends, AreStatements, AreBranches}
use Rattle.code.proofs.file_draft.FileDraft.+flatten_statement.Given as goal

-- A part is less deep than its whole. At one depth a list of parts stands above its parts, and an `if` above its lists.

abbrev pub decreases-statement : goal.decreases-statement
decreases-statement l = 3 * goal.size-statement l

abbrev pub decreases-body : goal.decreases-body
decreases-body l = 3 * goal.size-body l + 1

abbrev pub decreases-branches : goal.decreases-branches
decreases-branches l = 3 * goal.size-branches l + 1

abbrev pub decreases-repeated : goal.decreases-repeated
decreases-repeated l = 3 * goal.size-repeated l + 1

abbrev pub decreases-conditional : goal.decreases-conditional
decreases-conditional l = 3 * max (most (λ x. size-Branch x) l.branches.now) (most (λ x. size-Statement x) l.otherwise.now) + 2

-- ---- the loops

abbrev pub invariant-body-loop-statement : goal.invariant-body-loop-statement
invariant-body-loop-statement l = record {
  extends : Extends l.fn.self l.self;
  are : AreStatements l.self l.numbers.items (map statement_of (take l.statement-index l.body));
}

abbrev pub invariant-branches-loop-branch : goal.invariant-branches-loop-branch
invariant-branches-loop-branch l = record {
  extends : Extends l.fn.self l.self;
  are : AreBranches l.self l.nodes.items (map branch_of (take l.branch-index l.branches));
}
