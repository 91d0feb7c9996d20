use Rattle.std.proofs.Common.{◌≡◌, take}
use Rattle.machine_file.specs.QuestionsView.{all_shown_in, asides_in}
use Rattle.machine_file.proofs.question.Question.shown_asides.Given as goal

abbrev pub invariant-loop-aside : goal.invariant-loop-aside
invariant-loop-aside l = all_shown_in l.shown.items ≡ asides_in (take l.aside-index l.self.asides.items)
