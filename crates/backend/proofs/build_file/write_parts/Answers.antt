use Rattle.std.proofs.Common.{refl}
use Rattle.ports.proofs.Sending.{makes_none, makes_stop, makes_then, makes_took, makes_writes}
use Rattle.backend.proofs.Stopping.{makes_device, makes_ends}
use Rattle.backend.proofs.build_file.write_parts.Goals as goal

pub returns-in_err-open : goal.returns-in_err-open
returns-in_err-open g c = makes_device _ c.from_residual.ensures.1 (makes_none (makes_took c.in_err-open.ensures.took))

pub returns-in_err-write_head : goal.returns-in_err-write_head
returns-in_err-write_head g c =
    makes_device _ c.from_residual-in_err-write_head.ensures.1
    (makes_then (makes_took c.in_ok-open.ensures.took) (makes_stop _ refl (makes_writes c.in_err-write_head.ensures)))

pub returns-in_err-write_targets : goal.returns-in_err-write_targets
returns-in_err-write_targets g c =
    makes_then (makes_took c.in_ok-open.ensures.took) (makes_then (makes_writes c.in_ok-write_head.ensures)
    (makes_ends _ c.in_err-write_targets.field-0.0 _ c.from_residual-in_err-write_targets.ensures.1 (makes_writes c.in_err-write_targets.ensures)))

pub returns-in_err-write_tail : goal.returns-in_err-write_tail
returns-in_err-write_tail g c =
    makes_device _ c.from_residual-in_err-write_tail.ensures.1
    (makes_then (makes_took c.in_ok-open.ensures.took) (makes_then (makes_writes c.in_ok-write_head.ensures)
    (makes_then (makes_writes c.in_ok-write_targets.ensures) (makes_stop _ refl (makes_writes c.in_err-write_tail.ensures)))))

pub returns-in_err-close : goal.returns-in_err-close
returns-in_err-close g c =
    makes_device _ c.from_residual-in_err-close.ensures.1
    (makes_then (makes_took c.in_ok-open.ensures.took) (makes_then (makes_writes c.in_ok-write_head.ensures)
    (makes_then (makes_writes c.in_ok-write_targets.ensures) (makes_then (makes_writes c.in_ok-write_tail.ensures)
    (makes_none (makes_took c.in_err-close.ensures))))))

pub returns : goal.returns
returns g c =
    makes_then (makes_took c.in_ok-open.ensures.took) (makes_then (makes_writes c.in_ok-write_head.ensures)
    (makes_then (makes_writes c.in_ok-write_targets.ensures) (makes_then (makes_writes c.in_ok-write_tail.ensures) (makes_took c.in_ok-close.ensures))))
