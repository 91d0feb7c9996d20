use Rattle.ports.proofs.Sending.{writes_exit, writes_stop, writes_then}
use Rattle.ninja.proofs.edges.write_bindings.Goals as goal

pub returns-in_err-put_all : goal.returns-in_err-put_all
returns-in_err-put_all g c = writes_exit _ c.from_residual.ensures.0
    (writes_stop _ c.in_err-put_all.ensures)

pub returns-in_err-write_command : goal.returns-in_err-write_command
returns-in_err-write_command g c = writes_exit _ c.from_residual-in_err-write_command.ensures.0
    (writes_then c.in_ok-put_all.ensures (writes_stop _ c.in_err-write_command.ensures))

pub returns-in_err-put_all-2 : goal.returns-in_err-put_all-2
returns-in_err-put_all-2 g c = writes_exit _ c.from_residual-in_err-put_all-2.ensures.0
    (writes_then c.in_ok-put_all.ensures (writes_then c.in_ok-write_command.ensures (writes_stop _ c.in_err-put_all-2.ensures)))

pub returns-in_err-write_value : goal.returns-in_err-write_value
returns-in_err-write_value g c = writes_exit _ c.from_residual-in_err-write_value.ensures.0
    (writes_then c.in_ok-put_all.ensures (writes_then c.in_ok-write_command.ensures (writes_then c.in_ok-put_all-2.ensures (writes_stop _ c.in_err-write_value.ensures))))

pub returns-in_err-put_all-3 : goal.returns-in_err-put_all-3
returns-in_err-put_all-3 g c = writes_exit _ c.from_residual-in_err-put_all-3.ensures.0
    (writes_then c.in_ok-put_all.ensures (writes_then c.in_ok-write_command.ensures (writes_then c.in_ok-put_all-2.ensures (writes_then c.in_ok-write_value.ensures (writes_stop _ c.in_err-put_all-3.ensures)))))

pub returns : goal.returns
returns g c = writes_then c.in_ok-put_all.ensures (writes_then c.in_ok-write_command.ensures (writes_then c.in_ok-put_all-2.ensures (writes_then c.in_ok-write_value.ensures (writes_then c.in_ok-put_all-3.ensures c.write_end.ensures))))
