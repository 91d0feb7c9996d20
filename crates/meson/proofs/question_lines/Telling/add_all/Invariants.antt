use Rattle.std.proofs.Common.{map, take}
use Rattle.introspection.specs.QuestionsView.{line_in}
use Rattle.world.specs.AskedView.{asked_in}
use Rattle.meson.specs.Labels.{Fits}
use Rattle.meson.specs.Questions.{line_texts}
use Rattle.meson.specs.QuestionLines.{Tells}
use Rattle.meson.proofs.question_lines.Telling.add_all.Given as goal

abbrev pub invariant-loop-line : goal.invariant-loop-line
invariant-loop-line l = record {
  fits : Fits l.self.labels;
  tells : Tells l.fn.self (map (line_texts (asked_in l.asked)) (map line_in (take l.line-index l.line-items))) l.self;
}
