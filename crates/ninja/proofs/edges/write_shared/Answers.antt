use Rattle.ports.proofs.Sending.{writes_exit, writes_stop, writes_then}
use Rattle.ninja.proofs.edges.write_shared.Goals as goal

pub returns-in_err-put_all : goal.returns-in_err-put_all
returns-in_err-put_all g c = writes_exit _ c.from_residual-in_err-put_all.ensures.0
    (writes_then c.in_ok-write_signed_paths.ensures (writes_stop _ c.in_err-put_all.ensures))

pub returns : goal.returns
returns g c = writes_then c.in_ok-write_signed_paths.ensures (writes_then c.in_ok-put_all.ensures c.write_words.ensures)
