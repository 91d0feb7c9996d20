use Rattle.std.proofs.Common.{◌≡◌, string_bytes, subst, sym, rules}
use Rattle.std.proofs.lemmas.Result.{on_ok_weaker}
use Rattle.serde.specs.Event as event
use Rattle.serde.specs.Event.{Logs}
use Rattle.serde_json.specs.Data.{Data, number}
use Rattle.serde_json.specs.Find.{of_integer}
use Rattle.serde_json.specs.View.{view}
use Rattle.serde_json.specs.Events.{SendsValue}
use Rattle.machine_file.specs.declared.value.MachineValue.{MachineValue}
use Rattle.machine_file.specs.View.{value_in}
use Rattle.introspection.specs.Questions.{shown_value}
use Rattle.introspection.proofs.Sent.{texts_sent}
use Rattle.introspection.proofs.questions.send_value.Goals as goal

pub returns-in-Text : goal.returns-in-Text
returns-in-Text g c =
    let old = g.S.Serializer.written c.args.out.now in
    let new = g.S.Serializer.written c.str.new.self in
    let text : c.as_str.result.now ≡ string_bytes c.in-Text.text = search rules in
    on_ok_weaker c.str.result (λ h. subst (λ (v : MachineValue). SendsValue (shown_value (value_in v)) old new) (sym c.in-Text.is)
    (subst (λ t. Logs old new (event.text t)) text h)) c.str.ensures

pub returns-in-Integer : goal.returns-in-Integer
returns-in-Integer g c =
    let old = g.S.Serializer.written c.args.out.now in
    let new = g.S.Serializer.written c.serialize.new.out in
    let seen : view c.from.result ≡ number (of_integer c.in-Integer.number) = search rules in
    on_ok_weaker c.serialize.result (λ h. subst (λ (v : MachineValue). SendsValue (shown_value (value_in v)) old new) (sym c.in-Integer.is)
    (subst (λ (d : Data). SendsValue d old new) seen h)) c.serialize.ensures

pub returns-in-Texts : goal.returns-in-Texts
returns-in-Texts g c =
    let old = g.S.Serializer.written c.args.out.now in
    let new = g.S.Serializer.written c.serialize-in-Texts.new.out in
    on_ok_weaker c.serialize-in-Texts.result (λ h. subst (λ (v : MachineValue). SendsValue (shown_value (value_in v)) old new) (sym c.in-Texts.is)
    (texts_sent c.in-Texts.texts.items old new h)) c.serialize-in-Texts.ensures
