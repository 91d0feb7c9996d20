use Rattle.std.proofs.Common.{◌≡◌, ℕ, List, drop}
use Rattle.values.specs.View.{data_of}
use Rattle.world.specs.Deed.{Files}
use Rattle.world.specs.Gives.{Holds}
use Rattle.expressions.specs.Contexts.{Leads, Same, stand_of}
use Rattle.expressions.specs.Rounds.{rounds_in}
use Rattle.interp.specs.Bounds.{Bounds}
use Rattle.interp.specs.Frames.{Made, round_by}
use Rattle.interp.specs.Statements.{rounds_of}
use Rattle.interp.proofs.evaluator.Evaluator.do_rounds.Given as goal

-- the rounds before were done, and the others are left
abbrev pub invariant-loop-at : goal.invariant-loop-at
invariant-loop-at g l =
    let see = g.T.Tree.seen in
    let heard = g.O.Outputs.seen in
    record {
      same : Same l.fn.self.context l.self.context;
      tree : (see l.self.context.tree.now).failures ≡ (see l.fn.self.context.tree.now).failures;
      out : (heard l.self.context.out.now).failures ≡ (heard l.fn.self.context.out.now).failures;
      done : (files : Files) (left : Bounds) (table : List (List ℕ)) → Holds (see l.fn.self.context.tree.now) files → Made l.code l.fn.self.context.store.now.names table
          → Leads files (rounds_of (round_by table l.code left l.head) (drop l.from (rounds_in (data_of l.whole)))) (stand_of see heard l.fn.self.context)
          (rounds_of (round_by table l.code left l.head) (drop l.at (rounds_in (data_of l.whole)))) (stand_of see heard l.self.context);
    }
