-- States what a run depends on.
use Rattle.std.specs.Prelude.{◌≡◌, ℕ, List, [], ◌∷◌, ◌++◌}
use Rattle.ports.specs.Tree.{file_at}
use Rattle.machine_file.specs.Files.{Section}
use Rattle.machine_file.specs.Questions.{answer_to}
use Rattle.world.specs.World.{Asked, World}
use Rattle.world.specs.Run.{Run, ran, Act, world_after}
use Rattle.world.specs.Deed.{Files}

-- Holds if two file trees agree on these paths: each has the same bytes in both, or is absent from both.
abbrev pub Agree : Files → Files → List (List ℕ) → Type 0
Agree f g [] = Unit {0}
Agree f g (path ∷ paths) = (file_at f path ≡ file_at g path) × Agree f g paths

-- Holds if two machine files give the same answers to these questions.
abbrev pub AgreeOn : List Section → List Section → List Asked → Type 0
AgreeOn m n [] = Unit {0}
AgreeOn m n (a ∷ asked) = (answer_to m a.question.topic ≡ answer_to n a.question.topic) × AgreeOn m n asked

-- Holds if a list begins with all that it had before.
pub record Grows {A : Type 0} (old new : List A) : Type 0 where
  pub more : List A
  pub is : new ≡ old ++ more

-- Returns the same world with another machine file.
abbrev pub over : List Section → World → World
over machine w = record w { machine = machine }

-- Returns the same run with another machine file in its last world.
abbrev pub ran_over : {A : Type 0} → List Section → Run A → Run A
ran_over machine (ran o w ms) = ran o (over machine w) ms

-- Holds if an act depends only on the paths that it looks at and on the questions that it asks. If two file trees and two machine files
-- agree on these, both runs have the same outcome, world and marks.
pub record Depends {A : Type 0} (act : Files → Act A) : Type 0 where
  -- The list of paths that were looked at only grows.
  pub grows : (f : Files) (w : World) → Grows w.looked (world_after (act f w)).looked
  -- The list of questions that were asked only grows.
  pub asks : (f : Files) (w : World) → Grows w.asked (world_after (act f w)).asked
  -- The machine file stays the same.
  pub keeps : (f : Files) (w : World) → (world_after (act f w)).machine ≡ w.machine
  -- If files and machine files agree on these paths and questions, the runs are the same, except for the machine file in the world.
  pub same : (f g : Files) (n : List Section) (w : World) → Agree f g (world_after (act f w)).looked
      → AgreeOn w.machine n (world_after (act f w)).asked → act g (over n w) ≡ ran_over n (act f w)
