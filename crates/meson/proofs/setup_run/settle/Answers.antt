use Rattle.std.proofs.Common.{subst, sym}
use Rattle.ports.specs.Endings.{HasRoom}
use Rattle.backend.specs.Means.{Means}
use Rattle.backend.specs.Concluding.{Agrees, done_with}
use Rattle.meson.specs.Setup.{OnEnd, OnProject, Settles}
use Rattle.meson.proofs.setup_run.settle.Goals as goal

pub conclude-status-requires : goal.conclude-status-requires
conclude-status-requires g c = subst (λ a. OnEnd a (HasRoom (g.O.Outputs.seen c.args.out.now).failures)) c.in-Ok.is c.requires

pub tell_fault-requires : goal.tell_fault-requires
tell_fault-requires g c = subst (λ a. OnEnd a (HasRoom (g.O.Outputs.seen c.args.out.now).failures)) c.in-Err.is c.requires

pub returns-in-Ok-clause-settles : goal.returns-in-Ok-clause-settles
returns-in-Ok-clause-settles g c =
    let old = g.O.Outputs.seen c.args.out.now in
    let new = g.O.Outputs.seen c.conclude-status.new.out in
    subst (λ a. Settles a c.conclude-status.result old new) (sym c.in-Ok.is)
    (record { agrees = subst (λ p. Agrees (done_with p) c.conclude-status.result old new) c.project.ensures c.conclude-status.ensures.agrees; failures = c.conclude-status.ensures.device })

pub returns-in-Ok-clause-meaning : goal.returns-in-Ok-clause-meaning
returns-in-Ok-clause-meaning g c = subst (λ a. OnProject a Means) (sym c.in-Ok.is) (subst (λ p. Means p) c.project.ensures c.conclude-status.ensures.means)

pub returns-in-Err-clause-settles : goal.returns-in-Err-clause-settles
returns-in-Err-clause-settles g c =
    subst (λ a. Settles a c.tell_fault.result (g.O.Outputs.seen c.args.out.now) (g.O.Outputs.seen c.tell_fault.new.out)) (sym c.in-Err.is) c.tell_fault.ensures
