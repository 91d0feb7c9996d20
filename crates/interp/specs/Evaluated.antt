-- Defines what a whole evaluation results in.
use Rattle.std.specs.Prelude.{◌≡◌, ℕ, ◌+◌, ◌≤◌, List, ◌++◌, length, true, Result, Ok, Err}
use Rattle.ports.specs.Outputs.{OutputState, Sends}
use Rattle.ports.specs.Tree.{TreeState}
use Rattle.support.specs.View.{fault_view}
use Rattle.world.specs.Counts.{TicksAll, below, counts_from}
use Rattle.world.specs.Gives.{Ends, Faults, failures_after}
use Rattle.world.specs.Run.{Run, Done, Faulted, marks_of, world_after}
use Rattle.world.specs.Store.{Kept, world_of}
use Rattle.world.specs.Trace.{Begins, Mark, Seen, steps_of}
use Rattle.world.specs.declared.stop.Stop.{Stop}
use Rattle.world.specs.declared.stop.Stop.TheVariants as stops

-- Holds if the run ended in this world, or in this fault, whatever it asked, or if a device failed or memory ran out after a beginning of
-- its marks.
abbrev pub Evaluated : Run (Unit {0}) → Result Kept Stop → Seen → Seen → Type 0
Evaluated run (Ok store) old new = Ends run (Done tt) (world_of store) old new
Evaluated run (Err (stops.Refused fault)) old new = Faults run (Faulted (fault_view fault)) (world_after run).asked old new
Evaluated run (Err stops.Device) old new = Begins (marks_of run) old new
Evaluated run (Err stops.Memory) old new = Begins (marks_of run) old new

-- The run stopped: it ticked at most the cost, and once for each rule that ended before the last step that the outputs took.
pub record TickedSome (marks : List Mark) (cost : ℕ) (old new : Seen) : Type 0 where
  -- The marks up to the stop, and those after it.
  pub made : List Mark
  pub left : List Mark
  pub all : marks ≡ made ++ left
  -- The outputs took exactly the steps of the marks up to the stop.
  pub sent : Sends old.out new.out (steps_of made) true
  pub most : new.ticks ≤ old.ticks + cost
  pub least : old.ticks + below (length (steps_of made)) (counts_from 0 marks) ≤ new.ticks

-- Holds if an evaluation with this result has ticked as it should.
abbrev pub Ticked : {A B : Type 0} → Run A → ℕ → Result B Stop → Seen → Seen → Type 0
Ticked run cost (Ok x) old new = TicksAll (marks_of run) cost old.ticks new.ticks
Ticked run cost (Err (stops.Refused fault)) old new = TicksAll (marks_of run) cost old.ticks new.ticks
Ticked run cost (Err stops.Device) old new = TickedSome (marks_of run) cost old new
Ticked run cost (Err stops.Memory) old new = TickedSome (marks_of run) cost old new

-- One of the devices has failed once more if the result says so, and else none has.
pub record FailsOnce {B : Type 0} (tree : TreeState) (out : OutputState) (result : Result B Stop) (tree_now : TreeState)
    (out_now : OutputState) : Type 0 where
  pub of_tree : tree.failures ≤ tree_now.failures
  pub of_out : out.failures ≤ out_now.failures
  pub sum : tree_now.failures + out_now.failures ≡ failures_after (tree.failures + out.failures) result
