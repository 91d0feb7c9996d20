use Rattle.std.proofs.Common.{take}
use Rattle.serde.specs.Event.{WritesEach}
use Rattle.introspection.specs.Sending.{Sends}
use Rattle.introspection.proofs.serialization.send_list.Given as goal

abbrev pub invariant-loop-item : goal.invariant-loop-item
invariant-loop-item g l =
    WritesEach (λ x. Sends (g.T.Shown.shown x)) (take l.item-index l.items) (g.S.Serializer.written l.initial.out) (g.S.Serializer.written l.out)
