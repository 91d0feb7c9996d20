use Rattle.ports.proofs.Sending.{writes_exit, writes_stop, writes_then}
use Rattle.backend.proofs.fault.write_text.Goals as goal

pub returns-in_err-fault_all : goal.returns-in_err-fault_all
returns-in_err-fault_all g c = writes_exit _ c.from_residual.ensures.0 (writes_stop _ c.in_err-fault_all.ensures)

pub fault_all-requires-2 : goal.fault_all-requires-2
fault_all-requires-2 g c = rw c.in_ok-fault_all.ensures.failures c.requires

pub returns-in_err-fault_all-2 : goal.returns-in_err-fault_all-2
returns-in_err-fault_all-2 g c =
    let number = rw (c.as_bytes.ensures.value, c.format.ensures.text, c.number.ensures) at c.in_err-fault_all-2.ensures in
    writes_exit _ c.from_residual-in_err-fault_all-2.ensures.0
    (writes_then c.in_ok-fault_all.ensures (writes_stop _ number))

pub fault_all-requires-3 : goal.fault_all-requires-3
fault_all-requires-3 g c = rw (c.in_ok-fault_all-2.ensures.failures, c.in_ok-fault_all.ensures.failures) c.requires

pub returns-in_err-fault_all-3 : goal.returns-in_err-fault_all-3
returns-in_err-fault_all-3 g c =
    let number = rw (c.as_bytes.ensures.value, c.format.ensures.text, c.number.ensures) at c.in_ok-fault_all-2.ensures in
    writes_exit _ c.from_residual-in_err-fault_all-3.ensures.0
    (writes_then c.in_ok-fault_all.ensures (writes_then number (writes_stop _ c.in_err-fault_all-3.ensures)))

pub fault_all-requires-4 : goal.fault_all-requires-4
fault_all-requires-4 g c =
    rw (
      c.in_ok-fault_all-3.ensures.failures,
      c.in_ok-fault_all-2.ensures.failures,
      c.in_ok-fault_all.ensures.failures,
    ) c.requires

pub returns-in_err-fault_all-4 : goal.returns-in_err-fault_all-4
returns-in_err-fault_all-4 g c =
    let number = rw (c.as_bytes.ensures.value, c.format.ensures.text, c.number.ensures) at c.in_ok-fault_all-2.ensures in
    let words = rw (c.as_bytes-2.ensures.value, c.words.ensures, c.refusal.ensures) at c.in_err-fault_all-4.ensures in
    writes_exit _ c.from_residual-in_err-fault_all-4.ensures.0
    (writes_then c.in_ok-fault_all.ensures (writes_then number (writes_then c.in_ok-fault_all-3.ensures (writes_stop _ words))))

pub write_detail-requires : goal.write_detail-requires
write_detail-requires g c =
    rw (
      c.in_ok-fault_all-4.ensures.failures,
      c.in_ok-fault_all-3.ensures.failures,
      c.in_ok-fault_all-2.ensures.failures,
      c.in_ok-fault_all.ensures.failures,
    ) c.requires

pub returns : goal.returns
returns g c =
    let number = rw (c.as_bytes.ensures.value, c.format.ensures.text, c.number.ensures) at c.in_ok-fault_all-2.ensures in
    let words = rw (c.as_bytes-2.ensures.value, c.words.ensures, c.refusal.ensures) at c.in_ok-fault_all-4.ensures in
    writes_then c.in_ok-fault_all.ensures (writes_then number (writes_then c.in_ok-fault_all-3.ensures
    (writes_then words c.write_detail.ensures)))
