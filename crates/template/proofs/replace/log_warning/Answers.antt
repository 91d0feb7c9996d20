use Rattle.ports.proofs.Sending.{writes_exit, writes_stop, writes_then}
use Rattle.template.specs.Line.{warning}
use Rattle.template.proofs.replace.log_warning.Goals as goal

pub returns-in_err-log_all : goal.returns-in_err-log_all
unfolding warning
returns-in_err-log_all g c = writes_exit _ c.from_residual.ensures.0 (writes_stop _ c.in_err-log_all.ensures)

pub log_all-requires-2 : goal.log_all-requires-2
log_all-requires-2 g c = rw c.in_ok-log_all.ensures.failures c.requires

pub returns-in_err-log_all-2 : goal.returns-in_err-log_all-2
unfolding warning
returns-in_err-log_all-2 g c =
    let path = rw c.as_bytes.ensures.value at c.in_err-log_all-2.ensures in
    writes_exit _ c.from_residual-in_err-log_all-2.ensures.0 (writes_then c.in_ok-log_all.ensures (writes_stop _ path))

pub log_numbered-requires : goal.log_numbered-requires
log_numbered-requires g c = rw (c.in_ok-log_all-2.ensures.failures, c.in_ok-log_all.ensures.failures) c.requires

pub returns : goal.returns
unfolding warning
returns g c =
    let path = rw c.as_bytes.ensures.value at c.in_ok-log_all-2.ensures in
    writes_then c.in_ok-log_all.ensures (writes_then path c.log_numbered.ensures)
