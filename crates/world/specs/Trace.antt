-- Defines the marks of a run, in order: the steps sent to the outputs, and the ends of rules.
use Rattle.std.specs.Prelude.{◌≡◌, ℕ, ◌+◌, List, [], ◌∷◌, ◌++◌, true}
use Rattle.code.specs.Draft.{IsFront}
use Rattle.ports.specs.Outputs.{OutputState, Step, Sends}

-- A mark is a step sent to the outputs, or the end of the rule of a node or a loop round.
pub data Mark : Type 0 where
  -- A step was sent to the outputs.
  Told : Step → Mark
  -- The rule of a node or of a loop round ended.
  Ended : Mark

-- Returns the steps sent to the outputs.
abbrev pub steps_of : List Mark → List Step
steps_of [] = []
steps_of (Told s ∷ ms) = s ∷ steps_of ms
steps_of (Ended ∷ ms) = steps_of ms

-- Returns how many rules have ended.
abbrev pub ends_of : List Mark → ℕ
ends_of [] = 0
ends_of (Told s ∷ ms) = ends_of ms
ends_of (Ended ∷ ms) = 1 + ends_of ms

-- The parts of a state that marks change: the view of the outputs, the counter, and the table of names, which only grows.
pub record Seen : Type 0 where
  pub out : OutputState
  pub ticks : ℕ
  pub names : List (List ℕ)

-- Returns the record of these three parts of a state.
abbrev pub seen_from_parts : OutputState → ℕ → List (List ℕ) → Seen
seen_from_parts out ticks names = record { out = out; ticks = ticks; names = names }

-- Holds if exactly these marks were added.
pub record Adds (old : Seen) (marks : List Mark) (new : Seen) : Type 0 where
  -- The outputs took exactly the steps among the marks.
  pub sent : Sends old.out new.out (steps_of marks) true
  -- The counter rose by one for each rule that ended.
  pub ticks : new.ticks ≡ old.ticks + ends_of marks
  -- The table of names only grew at its end.
  pub names : IsFront old.names new.names

-- Holds if a prefix of these marks was added.
pub record Begins (these : List Mark) (old new : Seen) : Type 0 where
  pub made : List Mark
  pub left : List Mark
  pub all : these ≡ made ++ left
  pub written : Adds old made new
