use Rattle.std.proofs.Common.{◌≡◌, ℕ, List, drop}
use Rattle.world.specs.Deed.{Files}
use Rattle.world.specs.Gives.{Holds}
use Rattle.expressions.specs.Codes.{block_by}
use Rattle.expressions.specs.Contexts.{Leads, Same, stand_of}
use Rattle.interp.specs.Blocks.{statements_of}
use Rattle.interp.specs.Bounds.{Bounds}
use Rattle.interp.specs.Folders.{folder}
use Rattle.interp.specs.Frames.{Made}
use Rattle.interp.specs.Statements.{do_all}
use Rattle.interp.proofs.evaluator.Evaluator.do_statements.Given as goal

-- the statements before were done, and the others are left
abbrev pub invariant-loop-place : goal.invariant-loop-place
invariant-loop-place g l =
    let see = g.T.Tree.seen in
    let heard = g.O.Outputs.seen in
    record {
      same : Same l.fn.self.context l.self.context;
      tree : (see l.self.context.tree.now).failures ≡ (see l.fn.self.context.tree.now).failures;
      out : (heard l.self.context.out.now).failures ≡ (heard l.fn.self.context.out.now).failures;
      done : (files : Files) (left : Bounds) (table : List (List ℕ)) → Holds (see l.fn.self.context.tree.now) files → Made l.code l.fn.self.context.store.now.names table
          → Leads files (do_all (folder left) left.few (block_by table l.code (drop l.from (statements_of l.code l.fn.block)))) (stand_of see heard l.fn.self.context)
          (do_all (folder left) left.few (block_by table l.code (drop l.place (statements_of l.code l.fn.block)))) (stand_of see heard l.self.context);
    }
