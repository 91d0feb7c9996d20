use Rattle.std.proofs.Common.{rules, refl}
use Rattle.std.proofs.lemmas.Result.{on_ok_weaker}
use Rattle.serde.proofs.Events.{WritesEach-more, WritesSeq-ends}
use Rattle.introspection.specs.Sending.{Sends}
use Rattle.introspection.proofs.Sent.{list_sent}
use Rattle.introspection.proofs.serialization.send_list.Goals as goal

pub loop-item-preserved : goal.loop-item-preserved
loop-item-preserved g c =
    WritesEach-more (λ x. Sends (g.T.Shown.shown x)) _ _ _ _ _ _ (search rules) c.item-item.is c.loop-item.invariant c.in_ok-send.ensures

pub returns : goal.returns
returns g c = on_ok_weaker c.end_seq.result
    (λ ended. list_sent g.T.Shown.shown c.args.items.now _ _
    (WritesSeq-ends (λ x. Sends (g.T.Shown.shown x)) _ _ _ _ _ _ _ _ refl (search rules) (search rules) c.in_ok-begin_seq.ensures c.loop-item.invariant ended))
    c.end_seq.ensures
