use Rattle.std.proofs.Common.{sym, ◌∙◌}
use Rattle.ports.proofs.Sending.{failures_failed, failures_whole}
use Rattle.ports.proofs.Recorded.{puts_recorded, puts_stay_within, some_current}
use Rattle.ports.proofs.memory.outputs.MemOutputsOutputs.put.Goals as goal

pub unwrap-requires : goal.unwrap-requires
unwrap-requires c = some_current _ _ c.requires.name

pub invariant_of-self-else-is_err : goal.invariant_of-self-else-is_err
invariant_of-self-else-is_err c = record {
  slots_within = puts_stay_within _ _ _ _ _ _ c.unwrap.ensures c.args.self.now.open_within c.args.self.now.slots_within c.record_bytes-taken.ensures.items;
  open_within = c.args.self.now.open_within;
}

pub returns-then-is_err-clause-took : goal.returns-then-is_err-clause-took
returns-then-is_err-clause-took c = record {
  takes = puts_recorded _ _ _ _ _ _ _ _ c.unwrap.ensures c.record_bytes-taken.ensures.items;
  failures = failures_failed _ _ (sym c.is_err.ensures.value ∙ c.if-is_err.true);
}

pub returns-else-is_err-clause-took : goal.returns-else-is_err-clause-took
returns-else-is_err-clause-took c = record {
  takes = puts_recorded _ _ _ _ _ _ _ _ c.unwrap.ensures c.record_bytes-taken.ensures.items;
  failures = failures_whole _ _ (sym c.is_err.ensures.value ∙ c.if-is_err.false);
}
