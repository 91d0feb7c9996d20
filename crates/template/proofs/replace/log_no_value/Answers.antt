use Rattle.ports.proofs.Sending.{writes_exit, writes_stop, writes_then}
use Rattle.template.specs.Line.{no_value}
use Rattle.template.proofs.replace.log_no_value.Goals as goal

pub returns-in_err-log_all : goal.returns-in_err-log_all
unfolding no_value
returns-in_err-log_all g c = writes_exit _ c.from_residual.ensures.0 (writes_stop _ c.in_err-log_all.ensures)

pub log_all-requires-2 : goal.log_all-requires-2
log_all-requires-2 g c = rw c.in_ok-log_all.ensures.failures c.requires

pub returns-in_err-log_all-2 : goal.returns-in_err-log_all-2
unfolding no_value
returns-in_err-log_all-2 g c =
    writes_exit _ c.from_residual-in_err-log_all-2.ensures.0
    (writes_then c.in_ok-log_all.ensures (writes_stop _ c.in_err-log_all-2.ensures))

pub log_all-requires-3 : goal.log_all-requires-3
log_all-requires-3 g c = rw (c.in_ok-log_all-2.ensures.failures, c.in_ok-log_all.ensures.failures) c.requires

pub returns : goal.returns
unfolding no_value
returns g c = writes_then c.in_ok-log_all.ensures (writes_then c.in_ok-log_all-2.ensures c.log_all-3.ensures)
