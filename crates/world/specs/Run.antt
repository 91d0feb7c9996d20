-- Defines runs: their outcome, the world after them, and the marks that they leave.
use Rattle.std.specs.Prelude.{List, [], ◌∷◌, ◌++◌}
use Rattle.support.specs.Faults.{FaultData}
use Rattle.world.specs.Trace.{Mark, Ended}
use Rattle.world.specs.World.{World}

-- The outcome of a run: a result, or the fault that ends everything.
pub data Outcome (A : Type 0) : Type 0 where
  Done : A → Outcome A
  Faulted : FaultData → Outcome A

-- A run: its outcome, the world after it, and the marks that it adds.
pub data Run (A : Type 0) : Type 0 where
  ran : Outcome A → World → List Mark → Run A

-- An act returns a run for each world in which it begins.
abbrev pub Act : Type 0 → Type 0
Act A = World → Run A

-- Returns a value, and changes nothing.
abbrev pub pure : {A : Type 0} → A → Act A
pure a w = ran (Done a) w []

-- Ends with a fault, and changes nothing.
abbrev pub fails : {A : Type 0} → FaultData → Act A
fails f w = ran (Faulted f) w []

-- Returns a run with these marks before its own.
abbrev pub after : {A : Type 0} → List Mark → Run A → Run A
after ms (ran o w ns) = ran o w (ms ++ ns)

-- Returns one run followed by another, unless the first one faults.
abbrev pub follow : {A B : Type 0} → Run A → (A → Act B) → Run B
follow (ran (Done a) w ms) next = after ms (next a w)
follow (ran (Faulted f) w ms) next = ran (Faulted f) w ms

-- Returns a run after which the rule of a node ends.
abbrev pub with_end : {A : Type 0} → Run A → Run A
with_end (ran o w ms) = ran o w (ms ++ Ended ∷ [])

-- Returns the marks that a run leaves.
abbrev pub marks_of : {A : Type 0} → Run A → List Mark
marks_of (ran o w ms) = ms

-- Returns the outcome of a run.
abbrev pub outcome_of : {A : Type 0} → Run A → Outcome A
outcome_of (ran o w ms) = o

-- Returns the world after a run.
abbrev pub world_after : {A : Type 0} → Run A → World
world_after (ran o w ms) = w
