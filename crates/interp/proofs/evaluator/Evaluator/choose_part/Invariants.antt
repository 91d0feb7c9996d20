use Rattle.std.proofs.Common.{◌≡◌, List, drop, map}
use Rattle.code.specs.Statements.{branch_at}
use Rattle.syntax.specs.ExpressionTree.{ExpressionTree}
use Rattle.syntax.specs.Tree.{StatementTree, Statements, branches}
use Rattle.world.specs.Deed.{Files}
use Rattle.world.specs.Gives.{Holds}
use Rattle.interp.specs.Bounds.{Bounds}
use Rattle.interp.specs.Evaluates.{Reads}
use Rattle.expressions.specs.Contexts.{Same, stand_of, Leads}
use Rattle.interp.specs.Folders.{folder}
use Rattle.interp.specs.Statements.{branches_of, do_all}
use Rattle.interp.proofs.evaluator.Evaluator.choose_part.Given as goal

-- the branches before were skipped
abbrev pub invariant-loop-part : goal.invariant-loop-part
invariant-loop-part g l =
    let see = g.T.Tree.seen in
    let heard = g.O.Outputs.seen in
    record {
      same : Same l.fn.self.context l.self.context;
      tree : (see l.self.context.tree.now).failures ≡ (see l.fn.self.context.tree.now).failures;
      out : (heard l.self.context.out.now).failures ≡ (heard l.fn.self.context.out.now).failures;
      done : (files : Files) (ts : List ExpressionTree) (ss : List StatementTree) (left : Bounds) (otherwise : Statements) → Holds (see l.fn.self.context.tree.now) files → Reads ts l.code l.fn.self.context.store.now.names
          → Leads files (branches_of (folder left) left.few (branches (map (branch_at ts ss) l.fn.parts)) (do_all (folder left) left.few otherwise)) (stand_of see heard l.fn.self.context) (branches_of (folder left) left.few (branches (map (branch_at ts ss) (drop l.part l.parts))) (do_all (folder left) left.few otherwise)) (stand_of see heard l.self.context);
    }
