use Rattle.std.proofs.Common.{ap}
use Rattle.byte_devices.specs.PiecesView.{pieces_view}
use Rattle.byte_devices.proofs.KeptPieces.{none_joined}
use Rattle.byte_devices.proofs.outputs.KeptOutputs.new.Goals as goal

pub invariant_of-result : goal.invariant_of-result
invariant_of-result c = record { joined = none_joined _ (ap pieces_view c.new-pieces.ensures.items) }
