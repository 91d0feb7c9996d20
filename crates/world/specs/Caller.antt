-- Defines the state of a caller, and what a caller does.
use Rattle.std.specs.Prelude.{Result}
use Rattle.ports.specs.Outputs.{OutputState}
use Rattle.ports.specs.Tree.{TreeState}
use Rattle.world.specs.Answering.{Carries, HasRoom, State}
use Rattle.world.specs.Deed.{Deed}
use Rattle.world.specs.Store.{world_of}
use Rattle.world.specs.declared.caller.Caller.{Caller}
use Rattle.world.specs.declared.stop.Stop.{Stop}

module _ {T O : Type 0} where
  -- Returns the state of a caller, with these views of its devices.
  abbrev pub state_of : (T → TreeState) → (O → OutputState) → Caller T O → State
  state_of tree out c = record {
    world = world_of c.store.now;
    names = c.store.now.names;
    tree = tree c.tree.now;
    out = out c.out.now;
    lent = (c.store.ghost_name, c.tree.ghost_name, c.out.ghost_name);
  }

  -- Holds if each of the caller's devices can count one more failure.
  abbrev pub MayFail : (T → TreeState) → (O → OutputState) → Caller T O → Type 0
  MayFail tree out c = HasRoom (state_of tree out c)

  -- Holds if the caller did what the deed does, or stopped after a prefix of the deed's output steps.
  abbrev pub Does : {A B : Type 0} → (T → TreeState) → (O → OutputState) → (B → A) → Deed A → (old : Caller T O) → Result B Stop
      → (new : Caller T O) → Type 0
  Does tree out view deed old result new = Carries view deed (state_of tree out old) result (state_of tree out new)
