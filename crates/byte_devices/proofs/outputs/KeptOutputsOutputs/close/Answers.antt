use Rattle.std.proofs.Common.{refl}
use Rattle.byte_devices.proofs.KeptPieces.{closed_joined, closed_kept, kept_or_same, nothing_kept}
use Rattle.byte_devices.proofs.outputs.KeptOutputsOutputs.close.Goals as goal

pub invariant_of-self : goal.invariant_of-self
invariant_of-self c = record {
  joined =
      kept_or_same c.keep_piece.result _ _ _ c.keep_piece.ensures.kept c.keep_piece.ensures.same c.args.self.now.joined
      (closed_joined _ c.args.self.now.joined);
}

pub returns-in-Ok : goal.returns-in-Ok
returns-in-Ok c = record { takes = closed_kept _ _ _ _ _ c.in-Ok.ensures.kept; failures = refl }

pub returns-in-Err : goal.returns-in-Err
returns-in-Err c = record { takes = nothing_kept _ _ _ _ c.in-Err.ensures.same; failures = refl }
