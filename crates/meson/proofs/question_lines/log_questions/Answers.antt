use Rattle.std.proofs.Common.{refl, subst}
use Rattle.ports.specs.Endings.{Failed, Whole}
use Rattle.ports.specs.Outputs.{Writes, logs}
use Rattle.machine_file.specs.View.{machine_in}
use Rattle.world.specs.AskedView.{asked_in}
use Rattle.meson.specs.Questions.{lines_asked}
use Rattle.meson.proofs.Lines.{ended_failed, ended_short, logged_all, logged_failed, logged_more, logged_none, logged_room, logged_short}
use Rattle.meson.proofs.question_lines.log_questions.Goals as goal

pub loop-it-init : goal.loop-it-init
loop-it-init g c = record {
  fits = c.new-telling.ensures.fits;
  logged = logged_none c.new-telling.result (g.O.Outputs.seen c.args.out.now) c.new-telling.ensures.labels c.new-telling.ensures.text;
}

pub log_all-requires : goal.log_all-requires
log_all-requires g c = logged_room c.loop-it.invariant.logged c.requires

pub loop-it-preserved : goal.loop-it-preserved
loop-it-preserved g c = record {
  fits = c.in_ok-add_all.ensures.fits;
  logged = logged_more (lines_asked (machine_in c.args.machine.now)) asked_in c.loop-it.telling c.add_all.new.self
      (record { labels = c.add_all.new.self.labels; text = c.new.result }) c.args.asked.now
      c.loop-it.it-index c.it-item.result c.it-item.is c.loop-it-test.true c.in_ok-add_all.ensures.tells c.loop-it.invariant.logged refl c.new.ensures.bytes
      (subst (λ b. Writes (g.O.Outputs.seen c.loop-it.out) (logs b) Whole (g.O.Outputs.seen c.log_all.new.out)) c.as_bytes.ensures.value c.in_ok-log_all.ensures);
}

pub returns-in_err-add_all : goal.returns-in_err-add_all
returns-in_err-add_all g c = ended_short c.from_residual.result c.from_residual.ensures.1
    (logged_short (lines_asked (machine_in c.args.machine.now)) asked_in c.loop-it.telling c.args.asked.now c.loop-it.it-index c.loop-it.invariant.logged)

pub returns-in_err-log_all : goal.returns-in_err-log_all
returns-in_err-log_all g c = ended_failed c.from_residual-in_err-log_all.result c.from_residual-in_err-log_all.ensures.1
    (logged_failed (lines_asked (machine_in c.args.machine.now)) asked_in c.loop-it.telling c.add_all.new.self c.args.asked.now
    c.loop-it.it-index c.it-item.result c.it-item.is c.loop-it-test.true c.in_ok-add_all.ensures.tells c.loop-it.invariant.logged
    (subst (λ b. Writes (g.O.Outputs.seen c.loop-it.out) (logs b) Failed (g.O.Outputs.seen c.log_all.new.out)) c.as_bytes.ensures.value c.in_err-log_all.ensures))

pub returns : goal.returns
returns g c = logged_all (lines_asked (machine_in c.args.machine.now)) asked_in c.loop-it.telling c.args.asked.now c.loop-it.it-index c.loop-it-test.false c.loop-it.invariant.logged
