-- Defines what outputs in memory show: the events that they took, and whether the next call fails.
use Rattle.std.specs.Prelude.{ℕ}
use Rattle.ports.specs.declared.memory.plan.OutputCall.{OutputCall}
use Rattle.ports.specs.Outputs.{OutputState}
use Rattle.ports.specs.memory.Plan.{Planned}
use Rattle.ports.specs.memory.Slots.{room_of, state_at}
use Rattle.ports.specs.declared.memory.outputs.MemOutputs.{MemOutputs}

-- Returns the state of outputs in memory, which always keep their events: these, the open output, and the count of failures.
abbrev pub mem_outputs_seen : MemOutputs → OutputState
mem_outputs_seen m = state_at m.names.items m.slots.items m.current m.failures

-- Returns the plan of the outputs.
abbrev pub mem_outputs_plan : MemOutputs → Planned OutputCall
mem_outputs_plan m = record { piece = m.plan.piece; kind = m.plan.kind; number = m.plan.number }

-- Counts the events and the bytes of names that there is room for.
pub record Room : Type 0 where
  pub events : ℕ
  pub names : ℕ

-- Returns how many more events, and how many more bytes of names, fit into the memory that the outputs have.
abbrev pub mem_outputs_room : MemOutputs → Room
mem_outputs_room m = record { events = room_of m.slots; names = room_of m.names }
