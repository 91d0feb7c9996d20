use Rattle.std.proofs.Common.{subst, sym}
use Rattle.meson.specs.QuestionLines.{Told}
use Rattle.meson.proofs.Tellings.{on_fault}
use Rattle.meson.proofs.question_run.settle.Goals as goal

pub returns-in-Ok : goal.returns-in-Ok
returns-in-Ok g c = subst (λ a. Told a c.tell.result (g.O.Outputs.seen c.args.out.now) (g.O.Outputs.seen c.tell.new.out)) (sym c.in-Ok.is) c.tell.ensures

pub tell_fault-requires : goal.tell_fault-requires
tell_fault-requires g c = on_fault c.in-Err.stop c.requires

pub returns-in-Err : goal.returns-in-Err
returns-in-Err g c =
    subst (λ a. Told a c.tell_fault.result (g.O.Outputs.seen c.args.out.now) (g.O.Outputs.seen c.tell_fault.new.out)) (sym c.in-Err.is) c.tell_fault.ensures
