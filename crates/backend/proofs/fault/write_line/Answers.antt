use Rattle.ports.proofs.Sending.{writes_exit, writes_stop, writes_then}
use Rattle.backend.proofs.fault.write_line.Goals as goal

pub returns-in_err-fault_all : goal.returns-in_err-fault_all
returns-in_err-fault_all g c =
    let file = rw (c.as_bytes.ensures.value, c.file.ensures) at c.in_err-fault_all.ensures in
    writes_exit _ c.from_residual.ensures.0
    (writes_stop _ file)

pub fault_all-requires-2 : goal.fault_all-requires-2
fault_all-requires-2 g c = rw c.in_ok-fault_all.ensures.failures c.requires

pub returns-in_err-fault_all-2 : goal.returns-in_err-fault_all-2
returns-in_err-fault_all-2 g c =
    let file = rw (c.as_bytes.ensures.value, c.file.ensures) at c.in_ok-fault_all.ensures in
    writes_exit _ c.from_residual-in_err-fault_all-2.ensures.0
    (writes_then file (writes_stop _ c.in_err-fault_all-2.ensures))

pub fault_all-requires-3 : goal.fault_all-requires-3
fault_all-requires-3 g c = rw (c.in_ok-fault_all-2.ensures.failures, c.in_ok-fault_all.ensures.failures) c.requires

pub returns-in_err-fault_all-3 : goal.returns-in_err-fault_all-3
returns-in_err-fault_all-3 g c =
    let file = rw (c.as_bytes.ensures.value, c.file.ensures) at c.in_ok-fault_all.ensures in
    let line = rw (c.as_bytes-2.ensures.value, c.format.ensures.text, c.line.ensures) at c.in_err-fault_all-3.ensures in
    writes_exit _ c.from_residual-in_err-fault_all-3.ensures.0
    (writes_then file (writes_then c.in_ok-fault_all-2.ensures (writes_stop _ line)))

pub fault_all-requires-4 : goal.fault_all-requires-4
fault_all-requires-4 g c =
    rw (
      c.in_ok-fault_all-3.ensures.failures,
      c.in_ok-fault_all-2.ensures.failures,
      c.in_ok-fault_all.ensures.failures,
    ) c.requires

pub returns-in_err-fault_all-4 : goal.returns-in_err-fault_all-4
returns-in_err-fault_all-4 g c =
    let file = rw (c.as_bytes.ensures.value, c.file.ensures) at c.in_ok-fault_all.ensures in
    let line = rw (c.as_bytes-2.ensures.value, c.format.ensures.text, c.line.ensures) at c.in_ok-fault_all-3.ensures in
    writes_exit _ c.from_residual-in_err-fault_all-4.ensures.0
    (writes_then file (writes_then c.in_ok-fault_all-2.ensures (writes_then line (writes_stop _ c.in_err-fault_all-4.ensures))))

pub write_text-requires : goal.write_text-requires
write_text-requires g c =
    rw (
      c.in_ok-fault_all-4.ensures.failures,
      c.in_ok-fault_all-3.ensures.failures,
      c.in_ok-fault_all-2.ensures.failures,
      c.in_ok-fault_all.ensures.failures,
    ) c.requires

pub returns-in_err-write_text : goal.returns-in_err-write_text
returns-in_err-write_text g c =
    let file = rw (c.as_bytes.ensures.value, c.file.ensures) at c.in_ok-fault_all.ensures in
    let line = rw (c.as_bytes-2.ensures.value, c.format.ensures.text, c.line.ensures) at c.in_ok-fault_all-3.ensures in
    writes_exit _ c.from_residual-in_err-write_text.ensures.0
    (writes_then file (writes_then c.in_ok-fault_all-2.ensures (writes_then line
    (writes_then c.in_ok-fault_all-4.ensures (writes_stop _ c.in_err-write_text.ensures)))))

pub fault_all-requires-5 : goal.fault_all-requires-5
fault_all-requires-5 g c =
    rw (
      c.in_ok-write_text.ensures.failures,
      c.in_ok-fault_all-4.ensures.failures,
      c.in_ok-fault_all-3.ensures.failures,
      c.in_ok-fault_all-2.ensures.failures,
      c.in_ok-fault_all.ensures.failures,
    ) c.requires

pub returns : goal.returns
returns g c =
    let file = rw (c.as_bytes.ensures.value, c.file.ensures) at c.in_ok-fault_all.ensures in
    let line = rw (c.as_bytes-2.ensures.value, c.format.ensures.text, c.line.ensures) at c.in_ok-fault_all-3.ensures in
    writes_then file (writes_then c.in_ok-fault_all-2.ensures (writes_then line
    (writes_then c.in_ok-fault_all-4.ensures (writes_then c.in_ok-write_text.ensures c.fault_all-5.ensures))))
