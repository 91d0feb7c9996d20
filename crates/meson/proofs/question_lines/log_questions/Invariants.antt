use Rattle.std.proofs.Common.{map, take}
use Rattle.std.specs.List.{flat_map}
use Rattle.machine_file.specs.View.{machine_in}
use Rattle.world.specs.AskedView.{asked_in}
use Rattle.meson.specs.Labels.{Fits}
use Rattle.meson.specs.Questions.{lines_asked}
use Rattle.meson.proofs.Lines.{Logged}
use Rattle.meson.proofs.question_lines.log_questions.Given as goal

abbrev pub invariant-loop-it : goal.invariant-loop-it
invariant-loop-it g l = record {
  fits : Fits l.telling.labels;
  logged : Logged (flat_map (lines_asked (machine_in l.machine)) (map asked_in (take l.it-index l.asked))) l.telling
      (g.O.Outputs.seen l.fn.out) (g.O.Outputs.seen l.out);
}
