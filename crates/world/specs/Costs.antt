-- Bounds the number of rules that a run ends, if each folder is entered once and each file has a price.
use Rattle.std.specs.Prelude.{ℕ, ◌+◌, ◌≤◌, Bool, true, false, List, [], ◌∷◌, codes}
use Rattle.std.specs.List.{list_any}
use Rattle.std.specs.Str.{bytes_eq}
use Rattle.support.specs.paths.Paths.{path_in}
use Rattle.world.specs.Trace.{ends_of}
use Rattle.world.specs.World.{World}
use Rattle.world.specs.Run.{Run, Act, marks_of, world_after}
use Rattle.world.specs.Deed.{Files}

-- Returns the definition file of a folder.
abbrev pub definition_file : List ℕ → List ℕ
definition_file folder = path_in folder (codes "meson.build")

-- Holds if a path is the definition file of one of these folders.
abbrev pub is_opened : List (List ℕ) → List ℕ → Bool
is_opened folders path = list_any (λ folder. bytes_eq (definition_file folder) path) folders

-- Returns 0 if a condition is true, and otherwise the number.
abbrev pub unless : Bool → ℕ → ℕ
unless true n = 0
unless false n = n

-- Returns the sum of the prices of the files that were not opened.
abbrev pub unopened_cost : (List ℕ × List ℕ → ℕ) → Files → List (List ℕ) → ℕ
unopened_cost price [] folders = 0
unopened_cost price (file ∷ files) folders = unless (is_opened folders file.0) (price file) + unopened_cost price files folders

-- Returns the number of rules that a run ended, plus the price of all that may still be opened.
abbrev pub cost_of_run : {A : Type 0} → (List ℕ × List ℕ → ℕ) → Files → Run A → ℕ
cost_of_run price files run = ends_of (marks_of run) + unopened_cost price files (world_after run).entered

-- Holds if an act ends at most `cost` rules, and pays for each file that it opens.
pub record Costs {A : Type 0} (price : List ℕ × List ℕ → ℕ) (files : Files) (cost : ℕ) (act : Act A) : Type 0 where
  pub within : (w : World) → cost_of_run price files (act w) ≤ cost + unopened_cost price files w.entered
