use Rattle.std.proofs.Common.{subst, sym}
use Rattle.meson.specs.FaultRun.{TellsStop}
use Rattle.meson.proofs.fault_run.tell_stop.Goals as goal

pub returns-in-Refused : goal.returns-in-Refused
returns-in-Refused g c =
    subst (λ s. TellsStop s c.tell.result (g.O.Outputs.seen c.args.out.now) (g.O.Outputs.seen c.tell.new.out)) (sym c.in-Refused.is) c.tell.ensures
