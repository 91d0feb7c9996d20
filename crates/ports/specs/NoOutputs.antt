-- Defines how contracts see outputs that keep nothing: they do not tell.
use Rattle.std.specs.Prelude.{ℕ, false, [], Option, String, option_map, string_bytes}
use Rattle.std.specs.Global.{Global}
use Rattle.ports.specs.Outputs.{OutputState}

-- Returns the state of outputs that keep no events, given the name of the open output, if there is one, and the count of failures.
abbrev pub untold_state : Option (String Global) → ℕ → OutputState
untold_state current failures = record { events = []; open_name = option_map string_bytes current; failures = failures; tells = false }
