use Rattle.std.proofs.Common.{◌++◌, codes, subst}
use Rattle.ports.specs.Endings.{ending_of_result}
use Rattle.ports.specs.Outputs.{Writes, logs}
use Rattle.support.specs.View.{fault_view}
use Rattle.meson.proofs.Endings.{logged, unlogged}
use Rattle.meson.proofs.fault_run.tell_detail.Goals as goal

pub returns-in-Ok : goal.returns-in-Ok
returns-in-Ok g c =
    let old = g.O.Outputs.seen c.args.out.now in
    let new = g.O.Outputs.seen c.log_line.new.out in
    logged (fault_view c.args.fault.now) old new c.log_line.result tt c.in-Ok.is
    (subst (λ t. Writes old (logs t ++ logs (codes "\n")) (ending_of_result c.log_line.result) new) c.detail.ensures c.log_line.ensures)

pub returns-in-Err : goal.returns-in-Err
returns-in-Err g c =
    let old = g.O.Outputs.seen c.args.out.now in
    let new = g.O.Outputs.seen c.log_line.new.out in
    unlogged (fault_view c.args.fault.now) old new c.log_line.result c.in-Err.field-0 c.in-Err.is
    (subst (λ t. Writes old (logs t ++ logs (codes "\n")) (ending_of_result c.log_line.result) new) c.detail.ensures c.log_line.ensures)
