use Rattle.std.proofs.Common.{subst, sym}
use Rattle.meson.specs.FaultRun.{TellsFault}
use Rattle.meson.proofs.fault_run.settle.Goals as goal

pub returns-in-Ok : goal.returns-in-Ok
returns-in-Ok g c = subst (λ a. TellsFault a c.end.result (g.O.Outputs.seen c.args.out.now) (g.O.Outputs.seen c.end.new.out)) (sym c.in-Ok.is) c.end.ensures

pub returns-in-Err : goal.returns-in-Err
returns-in-Err g c =
    subst (λ a. TellsFault a c.tell_stop.result (g.O.Outputs.seen c.args.out.now) (g.O.Outputs.seen c.tell_stop.new.out)) (sym c.in-Err.is) c.tell_stop.ensures
