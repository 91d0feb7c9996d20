use Rattle.std.proofs.Common.{refl}
use Rattle.ports.specs.memory.Slots.{is_open_within}
use Rattle.ports.proofs.Recorded.{close_recorded, nothing_recorded, close_stays_within, some_current}
use Rattle.ports.proofs.memory.outputs.MemOutputsOutputs.close.Goals as goal

pub unwrap-span-requires : goal.unwrap-span-requires
unwrap-span-requires c = some_current _ _ c.requires.name

pub invariant_of-self : goal.invariant_of-self
unfolding is_open_within
invariant_of-self c = record {
  slots_within = close_stays_within _ _ _ _ _ c.unwrap-span.ensures c.args.self.now.open_within c.args.self.now.slots_within c.in-Ok.ensures.slots;
  open_within = refl;
}

pub returns-in-Ok : goal.returns-in-Ok
returns-in-Ok c = record { takes = close_recorded _ _ _ _ _ _ _ c.unwrap-span.ensures c.in-Ok.ensures.slots; failures = refl }

pub returns-in-Err : goal.returns-in-Err
returns-in-Err c = record { takes = nothing_recorded _ _ _ _ _ _ _ refl c.in-Err.ensures.slots; failures = refl }
