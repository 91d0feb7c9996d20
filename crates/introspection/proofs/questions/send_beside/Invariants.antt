use Rattle.std.proofs.Common.{take}
use Rattle.serde.specs.Event.{WritesEach}
use Rattle.machine_file.specs.QuestionsView.{shown_in}
use Rattle.introspection.specs.Questions.{aside_member}
use Rattle.introspection.proofs.Sent.{SendsMember}
use Rattle.introspection.proofs.questions.send_beside.Given as goal

abbrev pub invariant-loop-aside : goal.invariant-loop-aside
invariant-loop-aside g l =
    WritesEach (λ a. SendsMember (aside_member (shown_in a))) (take l.aside-index l.asides) (g.S.Serializer.written l.initial.out) (g.S.Serializer.written l.out)
