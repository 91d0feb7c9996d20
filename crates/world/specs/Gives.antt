-- Relates the result of a call to a run.
use Rattle.std.specs.Prelude.{◌≡◌, ℕ, ◌+◌, IsTrue, List, Result, Ok, Err}
use Rattle.ports.specs.Tree.{TreeState}
use Rattle.support.specs.Faults.{FaultData}
use Rattle.support.specs.View.{fault_view}
use Rattle.world.specs.Trace.{Mark, Seen, Adds, Begins}
use Rattle.world.specs.World.{Asked, World}
use Rattle.world.specs.Run.{Outcome, Run, ran, Done, Faulted, after, marks_of, outcome_of, world_after}
use Rattle.world.specs.declared.stop.Stop.{Stop}
use Rattle.world.specs.declared.stop.Stop.TheVariants as stops

-- Holds if the whole run is the new marks followed by the rest.
pub record Continues {A : Type 0} (whole rest : Run A) (old new : Seen) : Type 0 where
  pub made : List Mark
  pub is : whole ≡ after made rest
  pub written : Adds old made new

-- Holds if the run ended with this outcome and world, and all its marks are new.
pub record Ends {A : Type 0} (run : Run A) (o : Outcome A) (w : World) (old new : Seen) : Type 0 where
  pub is : run ≡ ran o w (marks_of run)
  pub written : Adds old (marks_of run) new

-- Holds if the run ends in this fault after these questions, and all its marks are new.
pub record Faults {A : Type 0} (run : Run A) (o : Outcome A) (asked : List Asked) (old new : Seen) : Type 0 where
  pub is : outcome_of run ≡ o
  pub asks : asked ≡ (world_after run).asked
  pub written : Adds old (marks_of run) new

-- Holds if a call ended as the run does, or stopped after a prefix of its marks.
abbrev pub Gives : {A B : Type 0} → (B → A) → Run A → Result B Stop → World → Seen → Seen → Type 0
Gives view run (Ok x) w old new = Ends run (Done (view x)) w old new
Gives view run (Err (stops.Refused fault)) w old new = Faults run (Faulted (fault_view fault)) w.asked old new
Gives view run (Err stops.Device) w old new = Begins (marks_of run) old new
Gives view run (Err stops.Memory) w old new = Begins (marks_of run) old new

-- Returns 1 if a run has ended, and 0 if it stopped.
abbrev pub is_ended : {B : Type 0} → Result B Stop → ℕ
is_ended (Ok x) = 1
is_ended (Err (stops.Refused fault)) = 1
is_ended (Err stops.Device) = 0
is_ended (Err stops.Memory) = 0

-- Returns the failure count of a device after a call that may have met one more failure.
abbrev pub failures_after : {B : Type 0} → ℕ → Result B Stop → ℕ
failures_after n (Ok x) = n
failures_after n (Err (stops.Refused fault)) = n
failures_after n (Err stops.Device) = n + 1
failures_after n (Err stops.Memory) = n

-- Holds if the file tree is steady and contains these files.
pub record Holds (tree : TreeState) (wanted : List (List ℕ × List ℕ)) : Type 0 where
  pub steady : IsTrue tree.steady
  pub files : tree.files ≡ wanted

-- Holds if a call stopped with this fault, or ran out of memory while it made it.
abbrev pub IsRefusal : Stop → FaultData → Type 0
IsRefusal (stops.Refused fault) f = fault_view fault ≡ f
IsRefusal stops.Device f = ⊥
IsRefusal stops.Memory f = Unit {0}
