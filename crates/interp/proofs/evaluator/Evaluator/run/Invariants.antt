use Rattle.std.proofs.Common.{◌≡◌, Bool}
use Rattle.world.specs.Deed.{Files}
use Rattle.world.specs.Gives.{Holds}
use Rattle.expressions.specs.Codes.{file_by}
use Rattle.expressions.specs.Contexts.{Same, stand_of}
use Rattle.interp.specs.Bounds.{bounds}
use Rattle.interp.specs.Folders.{folder}
use Rattle.interp.specs.Frames.{Moved}
use Rattle.interp.specs.Statements.{do_all}
use Rattle.interp.proofs.evaluator.Evaluator.run.Given as goal

-- the whole is what the stack still does
abbrev pub invariant-loop-step : goal.invariant-loop-step
invariant-loop-step g l =
    let see = g.T.Tree.seen in
    let heard = g.O.Outputs.seen in
    record {
      same : Same l.fn.self.context l.self.context;
      tree : (see l.self.context.tree.now).failures ≡ (see l.fn.self.context.tree.now).failures;
      out : (heard l.self.context.out.now).failures ≡ (heard l.fn.self.context.out.now).failures;
      done : (few : Bool) (files : Files) → Holds (see l.fn.self.context.tree.now) files
          → Moved files (do_all (folder (bounds few 63)) few (file_by l.fn.self.context.store.now.names l.fn.code)) (stand_of see heard l.fn.self.context) l.flow l.stack.items (stand_of see heard l.self.context);
    }
