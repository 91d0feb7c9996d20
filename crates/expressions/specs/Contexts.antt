-- Relates a call on a context to its plan.
use Rattle.std.specs.Prelude.{◌≡◌, ℕ, ◌+◌, ◌<◌, ◌≤◌, ◌^◌, List, Result}
use Rattle.ports.specs.Outputs.{OutputState}
use Rattle.ports.specs.Tree.{TreeState}
use Rattle.support.specs.Faults.{FaultData}
use Rattle.support.specs.declared.faults.refusal.Refusal.{Refusal}
use Rattle.world.specs.Deed.{Files}
use Rattle.world.specs.Gives.{Continues, Gives, Holds, failures_after}
use Rattle.world.specs.Plan.{Plan, carry}
use Rattle.world.specs.Store.{world_of}
use Rattle.world.specs.Trace.{Seen, seen_from_parts}
use Rattle.world.specs.World.{World}
use Rattle.world.specs.declared.stop.Stop.{Stop}
use Rattle.expressions.specs.declared.context.Context.{Context}

-- The state of a context: the world, the table of names, the views of the devices, and how often the counter was raised.
pub record Stand : Type 0 where
  pub world : World
  pub names : List (List ℕ)
  pub tree : TreeState
  pub out : OutputState
  pub ticks : ℕ

-- Returns what marks change in a state.
abbrev pub seen_of : Stand → Seen
seen_of s = seen_from_parts s.out s.ticks s.names

-- Holds if, over these files, the call ended as the plan does in this state, or stopped after a prefix of its marks. The tree still
-- contains the files.
pub record Given {A B : Type 0} (view : B
    → A) (files : Files) (plan : Plan A) (old : Stand) (result : Result B Stop) (new : Stand) : Type 0 where
  pub gives : Gives view (carry files plan old.world) result new.world (seen_of old) (seen_of new)
  pub holds : Holds new.tree files

-- Holds if a plan was done up to the point where `rest` is left of it.
pub record Leads {A : Type 0} (files : Files) (whole : Plan A) (old : Stand) (rest : Plan A) (now : Stand) : Type 0 where
  pub continues : Continues (carry files whole old.world) (carry files rest now.world) (seen_of old) (seen_of now)
  pub holds : Holds now.tree files

module _ {T O L : Type 0} where
  -- Returns the state of a context, with these views of its devices.
  abbrev pub stand_of : (T → TreeState) → (O → OutputState) → Context T O L → Stand
  stand_of tree out e = record {
    world = world_of e.store.now;
    names = e.store.now.names;
    tree = tree e.tree.now;
    out = out e.out.now;
    ticks = e.steps.now;
  }

  -- Holds if the context still has the references that it was given.
  abbrev pub Same : Context T O L → Context T O L → Type 0
  Same old new = (new.store.ghost_name ≡ old.store.ghost_name) × ((new.tree.ghost_name ≡ old.tree.ghost_name)
      × ((new.out.ghost_name ≡ old.out.ghost_name) × (new.steps.ghost_name ≡ old.steps.ghost_name)))

  -- Holds if each device can count one more failure.
  abbrev pub HasRoom : (T → TreeState) → (O → OutputState) → Context T O L → Type 0
  HasRoom tree out e = ((tree e.tree.now).failures + 1 < 2 ^ 64) × ((out e.out.now).failures + 1 < 2 ^ 64)

  -- Holds if one of the devices counted one more failure when the call says that a device failed, and none did otherwise.
  abbrev pub Fails : {B : Type 0} → (T → TreeState) → (O → OutputState) → Context T O L → Result B Stop → Context T O L → Type 0
  Fails tree out old result new =
      ((tree old.tree.now).failures ≤ (tree new.tree.now).failures) × (((out old.out.now).failures ≤ (out new.out.now).failures)
      × ((tree new.tree.now).failures + (out new.out.now).failures
      ≡ failures_after ((tree old.tree.now).failures + (out old.out.now).failures) result))

  -- Holds if the call does what this plan does.
  abbrev pub Answers : {A B : Type 0} → (T → TreeState) → (O → OutputState) → (B → A) → Plan A
      → Context T O L → Result B Stop → Context T O L → Type 0
  Answers tree out view plan old result new =
      (files : Files) → Holds (tree old.tree.now) files → Given view files plan (stand_of tree out old) result (stand_of tree out new)

  -- Returns a fault at this line of the present file.
  abbrev pub fault_on : Context T O L → ℕ → Refusal → List ℕ → FaultData
  fault_on e line refusal detail = record { file = e.store.now.file; line = line; refusal = refusal; detail = detail }
