use Rattle.support.specs.View.{fault_view}
use Rattle.meson.proofs.Endings.{room_behind, told_both, told_part}
use Rattle.meson.proofs.fault_run.tell.Goals as goal

pub tell_detail-requires : goal.tell_detail-requires
tell_detail-requires g c =
    room_behind c.refuse.result (g.O.Outputs.seen c.args.out.now) (g.O.Outputs.seen c.refuse.new.out) c.in-Fault.is c.refuse.ensures.device c.requires

pub returns-in-Fault : goal.returns-in-Fault
returns-in-Fault g c =
    told_both (fault_view c.args.fault.now) c.refuse.result c.tell_detail.result (g.O.Outputs.seen c.args.out.now) (g.O.Outputs.seen c.refuse.new.out)
    (g.O.Outputs.seen c.tell_detail.new.out) c.in-Fault.is c.refuse.ensures.agrees c.refuse.ensures.device c.tell_detail.ensures

pub returns-in_default : goal.returns-in_default
returns-in_default g c =
    told_part (fault_view c.args.fault.now) c.refuse.result (g.O.Outputs.seen c.args.out.now) (g.O.Outputs.seen c.refuse.new.out) c.in_default.not-Fault
    c.refuse.ensures.agrees c.refuse.ensures.device
