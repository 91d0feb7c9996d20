use Rattle.std.proofs.Common.{refl, sym, ◌∙◌}
use Rattle.ports.proofs.Sending.{failures_failed, failures_whole}
use Rattle.ports.specs.DiskOutputs.Closed.{nothing_owed}
use Rattle.ports.proofs.Untold.{untold_logs}
use Rattle.ports.proofs.disk_outputs.DiskOutputsOutputs.log.Goals as goal

pub returns-then-is_err-clause-took : goal.returns-then-is_err-clause-took
returns-then-is_err-clause-took g c = untold_logs _ nothing_owed refl (failures_failed _ _ (sym c.is_err.ensures.value ∙ c.if-is_err.true))

pub returns-else-is_err-clause-took : goal.returns-else-is_err-clause-took
returns-else-is_err-clause-took g c = untold_logs _ nothing_owed refl (failures_whole _ _ (sym c.is_err.ensures.value ∙ c.if-is_err.false))
