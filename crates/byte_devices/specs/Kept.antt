-- Defines what outputs that keep pieces are seen as. They always tell.
use Rattle.std.specs.Prelude.{ℕ, true, List, None}
use Rattle.ports.specs.Outputs.{OutputState, events_of_steps, name_after}
use Rattle.byte_devices.specs.Pieces.{PieceData, steps_in}

-- Returns the state of outputs that took these pieces: their events, the output that is open after them, and the count of failures.
abbrev pub kept_state : List PieceData → ℕ → OutputState
kept_state ps failures = record {
  events = events_of_steps None (steps_in ps);
  open_name = name_after None (steps_in ps);
  failures = failures;
  tells = true;
}
