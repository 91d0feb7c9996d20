-- Defines the result of passing a template for any tree, steady or not, by the bytes that the tree gave.
use Rattle.std.specs.Prelude.{ℕ, ◌+◌, ◌<◌, ◌≤◌, true, List, [], length, Option, Result, Ok, Err, OnOk, unwrap_or}
use Rattle.ports.specs.Outputs.{OutputState, Sends}
use Rattle.ports.specs.Reading.{Given, GivenWhole}
use Rattle.template.specs.Config.{Entries}
use Rattle.template.specs.declared.stop.PassStop.{PassStop}
use Rattle.template.specs.declared.stop.PassStop.TheVariants.{Template, Limit, Device}
use Rattle.template.specs.Template.{Agrees, template_fault, template_steps}

-- The tree returned a size, or none if the template is absent, and then gave these bytes. None of them is after the size, which counts as 0
-- if there is none. They are the whole file, unless a line was refused earlier. The output and the result are those of a template with
-- exactly these bytes.
pub record Passed {T : Type 0} (tells : T → List ℕ → Option ℕ → T → Type 0) (gives : T → List ℕ → ℕ → ℕ → List ℕ → T → Type 0)
    (entries : Entries)
    (path : List ℕ) (tree_old tree_new : T) (out_old out_new : OutputState) (result : Result (Unit {0}) PassStop) : Type 0 where
  pub size : Option ℕ
  pub tree : T
  pub told : tells tree_old path size tree
  pub bytes : List ℕ
  pub given : Given gives path (unwrap_or size 0) tree bytes tree_new
  pub whole : OnOk result (GivenWhole gives path (unwrap_or size 0) tree bytes tree_new)
  pub events : Sends out_old out_new (template_steps entries path bytes) true
  pub fault : Agrees result (template_fault bytes)

-- Holds if A holds, or if a device failed.
abbrev pub UnlessFailed : Result (Unit {0}) PassStop → Type 0 → Type 0
UnlessFailed (Ok x) A = A
UnlessFailed (Err (Template line)) A = A
UnlessFailed (Err (Limit line)) A = A
UnlessFailed (Err Device) A = Unit {0}

-- ---- for the contracts of private functions

-- One call gave these bytes of a file from a position on, none of them after the size, or the position is the size, and there was no call.
pub data Gave {T : Type 0} (gives : T → List ℕ → ℕ → ℕ → List ℕ → T → Type 0) (path : List ℕ) (size at : ℕ) (old : T)
    : List ℕ → T → Type 0 where
  called : (piece : List ℕ) (room : ℕ) (new : T) → 0 < room → at + room ≤ size → gives old path at room piece new → length piece ≤ room
      → Gave gives path size at old piece new
  past : size ≤ at → Gave gives path size at old [] old
