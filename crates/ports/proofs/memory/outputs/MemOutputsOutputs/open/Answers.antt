use Rattle.ports.specs.memory.Slots.{open_at}
use Rattle.std.proofs.Common.{◌∙◌, ◌++◌, ap, refl}
use Rattle.ports.proofs.Recorded.{open_recorded, nothing_recorded, open_stays_within, current_is_within}
use Rattle.ports.proofs.memory.outputs.MemOutputsOutputs.open.Goals as goal

pub invariant_of-self-2 : goal.invariant_of-self-2
invariant_of-self-2 c = let e = c.in-Ok.ensures in record {
  slots_within = open_stays_within _ _ _ _ _ _ c.args.self.now.slots_within e.names e.span.0 e.span.1 e.slots;
  open_within = current_is_within _ _ _ _ e.names e.span.0 e.span.1;
}

pub returns-clause-took : goal.returns-clause-took
returns-clause-took c = let e = c.in-Ok.ensures in record {
  takes =
      open_recorded _ _ _ _ _ _ _ _ _ c.args.self.now.slots_within (e.names ∙ ap (λ n. c.args.self.now.names.items ++ n) c.as_bytes-name.ensures.value)
      e.span.0 e.span.1 e.slots;
  failures = refl;
}

pub returns-in_default-clause-took : goal.returns-in_default-clause-took
returns-in_default-clause-took c = record { takes = nothing_recorded _ _ _ _ _ _ _ c.in_default.ensures.names c.in_default.ensures.slots; failures = refl }

pub returns-clause-is_open : goal.returns-clause-is_open
unfolding open_at
returns-clause-is_open c = record { room = c.requires; name = refl }
