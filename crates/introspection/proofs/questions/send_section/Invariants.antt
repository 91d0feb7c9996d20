use Rattle.std.proofs.Common.{take}
use Rattle.serde.specs.Event.{WritesEach}
use Rattle.machine_file.specs.View.{entries_of}
use Rattle.introspection.specs.Questions.{entry_member}
use Rattle.introspection.proofs.Sent.{SendsMember}
use Rattle.introspection.proofs.questions.send_section.Given as goal

abbrev pub invariant-loop-i : goal.invariant-loop-i
invariant-loop-i g l =
    WritesEach (λ e. SendsMember (entry_member e)) (take l.i (entries_of l.section)) (g.S.Serializer.written l.initial.out) (g.S.Serializer.written l.out)
