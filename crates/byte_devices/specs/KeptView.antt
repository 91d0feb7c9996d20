-- Defines the view of outputs that keep pieces, without their place in memory.
use Rattle.ports.specs.Outputs.{OutputState}
use Rattle.byte_devices.specs.Kept.{kept_state}
use Rattle.byte_devices.specs.PiecesView.{pieces_view}
use Rattle.byte_devices.specs.declared.outputs.KeptOutputs.{KeptOutputs}

-- Returns the state of outputs that keep pieces, without their place in memory.
abbrev pub kept_seen : KeptOutputs → OutputState
kept_seen out = kept_state (pieces_view out.pieces.items) out.failures
