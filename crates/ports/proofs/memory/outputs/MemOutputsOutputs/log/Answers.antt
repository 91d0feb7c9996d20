use Rattle.std.proofs.Common.{sym, ◌∙◌}
use Rattle.ports.proofs.Sending.{failures_failed, failures_whole}
use Rattle.ports.proofs.Recorded.{logs_recorded, logs_stay_within}
use Rattle.ports.proofs.memory.outputs.MemOutputsOutputs.log.Goals as goal

pub invariant_of-self-else-is_err : goal.invariant_of-self-else-is_err
invariant_of-self-else-is_err c = record {
  slots_within = logs_stay_within _ _ _ _ c.args.self.now.slots_within c.record_bytes-taken.ensures.items;
  open_within = c.args.self.now.open_within;
}

pub returns-then-is_err-clause-took : goal.returns-then-is_err-clause-took
returns-then-is_err-clause-took c = record {
  takes = logs_recorded _ _ _ _ _ _ _ c.record_bytes-taken.ensures.items;
  failures = failures_failed _ _ (sym c.is_err.ensures.value ∙ c.if-is_err.true);
}

pub returns-else-is_err-clause-took : goal.returns-else-is_err-clause-took
returns-else-is_err-clause-took c = record {
  takes = logs_recorded _ _ _ _ _ _ _ c.record_bytes-taken.ensures.items;
  failures = failures_whole _ _ (sym c.is_err.ensures.value ∙ c.if-is_err.false);
}
