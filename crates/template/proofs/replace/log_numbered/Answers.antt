use Rattle.ports.proofs.Sending.{writes_exit, writes_stop, writes_then}
use Rattle.template.proofs.replace.log_numbered.Goals as goal

pub returns-in_err-log_all : goal.returns-in_err-log_all
returns-in_err-log_all g c = writes_exit _ c.from_residual.ensures.0 (writes_stop _ c.in_err-log_all.ensures)

pub log_all-requires-2 : goal.log_all-requires-2
log_all-requires-2 g c = rw c.in_ok-log_all.ensures.failures c.requires

pub returns-in_err-log_all-2 : goal.returns-in_err-log_all-2
returns-in_err-log_all-2 g c =
    let number = rw (c.as_bytes.ensures.value, c.format.ensures.text) at c.in_err-log_all-2.ensures in
    writes_exit _ c.from_residual-in_err-log_all-2.ensures.0 (writes_then c.in_ok-log_all.ensures (writes_stop _ number))

pub log_no_value-requires : goal.log_no_value-requires
log_no_value-requires g c = rw (c.in_ok-log_all-2.ensures.failures, c.in_ok-log_all.ensures.failures) c.requires

pub returns : goal.returns
returns g c =
    let number = rw (c.as_bytes.ensures.value, c.format.ensures.text) at c.in_ok-log_all-2.ensures in
    writes_then c.in_ok-log_all.ensures (writes_then number c.log_no_value.ensures)
