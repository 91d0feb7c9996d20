use Rattle.std.proofs.Common.{refl}
use Rattle.ports.specs.Outputs.{puts}
use Rattle.byte_devices.specs.declared.piece.PieceKind.TheVariants.{Bytes}
use Rattle.byte_devices.proofs.KeptPieces.{bytes_joined, kept_or_same, nothing_kept, puts_kept}
use Rattle.byte_devices.proofs.outputs.KeptOutputsOutputs.put.Goals as goal

pub invariant_of-self : goal.invariant_of-self
invariant_of-self c = record {
  joined =
      kept_or_same c.keep_bytes.result _ _ _ c.keep_bytes.ensures.kept c.keep_bytes.ensures.same c.args.self.now.joined
      (bytes_joined Bytes refl _ c.args.bytes.now c.args.self.now.joined);
}

pub returns-in-Ok-clause-took : goal.returns-in-Ok-clause-took
returns-in-Ok-clause-took c = record { takes = puts_kept _ _ c.args.bytes.now _ _ c.in-Ok.ensures.kept; failures = refl }

pub returns-in-Err-clause-took : goal.returns-in-Err-clause-took
unfolding puts
returns-in-Err-clause-took c = record { takes = nothing_kept _ _ _ _ c.in-Err.ensures.same; failures = refl }
