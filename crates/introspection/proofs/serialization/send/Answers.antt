use Rattle.std.proofs.Common.{subst}
use Rattle.std.proofs.lemmas.Result.{on_ok_weaker}
use Rattle.serde_json.specs.Events.{SendsValue}
use Rattle.introspection.proofs.serialization.send.Goals as goal

pub returns-in-Ok : goal.returns-in-Ok
returns-in-Ok g c =
    let old = g.S.Serializer.written c.args.out.now in
    let new = g.S.Serializer.written c.serialize.new.out in
    on_ok_weaker c.serialize.result (λ h. record {
      events = subst (λ d. SendsValue d old new) c.in-Ok.ensures.shows h;
      reads = c.in-Ok.ensures.reads;
    }) c.serialize.ensures
