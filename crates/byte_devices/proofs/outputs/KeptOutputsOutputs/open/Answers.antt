use Rattle.std.proofs.Common.{refl, sym, subst, IsSome}
use Rattle.byte_devices.proofs.KeptPieces.{open_name_kept, opened_joined, opened_kept, kept_or_same, nothing_kept}
use Rattle.byte_devices.proofs.outputs.KeptOutputsOutputs.open.Goals as goal

pub invariant_of-self : goal.invariant_of-self
invariant_of-self c = record {
  joined =
      kept_or_same c.keep_piece.result _ _ _ c.keep_piece.ensures.kept c.keep_piece.ensures.same c.args.self.now.joined
      (opened_joined _ _ c.args.self.now.joined);
}

pub returns-in-Ok-clause-took : goal.returns-in-Ok-clause-took
returns-in-Ok-clause-took c = record {
  takes = opened_kept _ _ _ _ _ _ c.as_bytes.ensures.value c.in-Ok.ensures.kept;
  failures = refl;
}

pub returns-in-Ok-clause-is_open : goal.returns-in-Ok-clause-is_open
returns-in-Ok-clause-is_open c = record { room = c.requires; name = subst (λ n. IsSome n) (sym (open_name_kept _ _ _ c.in-Ok.ensures.kept)) refl }

pub returns-in-Err-clause-took : goal.returns-in-Err-clause-took
returns-in-Err-clause-took c = record { takes = nothing_kept _ _ _ _ c.in-Err.ensures.same; failures = refl }
