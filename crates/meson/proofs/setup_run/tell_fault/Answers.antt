use Rattle.std.proofs.Common.{subst, sym}
use Rattle.ports.specs.Endings.{HasRoom}
use Rattle.meson.specs.Setup.{OnFault, Stops}
use Rattle.meson.proofs.setup_run.tell_fault.Goals as goal

pub refuse-requires : goal.refuse-requires
refuse-requires g c = subst (λ s. OnFault s (HasRoom (g.O.Outputs.seen c.args.out.now).failures)) c.in-Refused.is c.requires

pub returns-in-Refused : goal.returns-in-Refused
returns-in-Refused g c =
    subst (λ s. Stops s c.refuse.result (g.O.Outputs.seen c.args.out.now) (g.O.Outputs.seen c.refuse.new.out)) (sym c.in-Refused.is)
    (record { agrees = c.refuse.ensures.agrees; failures = c.refuse.ensures.device })
