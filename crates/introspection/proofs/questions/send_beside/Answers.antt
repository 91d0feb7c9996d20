use Rattle.std.proofs.Common.{◌≡◌, ◌≤◌, length, refl, string_bytes, subst, sym, rules}
use Rattle.std.proofs.lemmas.List.{take_all}
use Rattle.std.proofs.lemmas.Result.{on_ok_weaker}
use Rattle.std.proofs.lemmas.Simd.{map-map}
use Rattle.serde.specs.Event.{Logs, WritesEach, field_key}
use Rattle.serde.specs.declared.name.Case.TheVariants.{AsIs}
use Rattle.serde.proofs.Events.{WritesEach-more}
use Rattle.serde_json.specs.Events.{SendsValue}
use Rattle.machine_file.specs.QuestionsView.{shown_in}
use Rattle.introspection.specs.Questions.{aside_member, ordered_object}
use Rattle.introspection.proofs.Sent.{SendsMember, ordered_sent, texts_sent}
use Rattle.introspection.proofs.questions.send_beside.Goals as goal

pub loop-aside-preserved : goal.loop-aside-preserved
loop-aside-preserved g c =
    let log = g.S.Serializer.written in
    let named = log c.key.new.self in
    let aside = c.aside-item.result in
    let name : c.as_str.result.now ≡ string_bytes aside.name = search rules in
    WritesEach-more (λ a. SendsMember (aside_member (shown_in a))) _ _ _ (log c.begin_map.new.self) (log c.loop-aside.out) (log c.serialize.new.out) (search rules)
    c.aside-item.is c.loop-aside.invariant (record {
      named = named;
      key = subst (λ k. Logs (log c.loop-aside.out) named (field_key k AsIs)) name c.in_ok-key.ensures;
      value = texts_sent aside.texts.items named (log c.serialize.new.out) c.in_ok-serialize.ensures;
    })

pub returns : goal.returns
returns g c =
    let log = g.S.Serializer.written in
    let asides = c.args.asides.now in
    let all : length asides ≤ c.loop-aside.aside-index = search rules in
    on_ok_weaker c.end_map.result (λ ended.
    subst (λ ms. SendsValue (ordered_object ms) (log c.args.out.now) (log c.end_map.new.self)) (sym (map-map aside_member shown_in asides))
    (ordered_sent (λ a. aside_member (shown_in a)) asides (length asides) (log c.args.out.now) (log c.begin_map.new.self) (log c.loop-aside.out)
    (log c.end_map.new.self) refl c.in_ok-begin_map.ensures
    (subst (λ xs. WritesEach (λ a. SendsMember (aside_member (shown_in a))) xs (log c.begin_map.new.self) (log c.loop-aside.out))
    (take_all c.loop-aside.aside-index asides all) c.loop-aside.invariant) ended)) c.end_map.ensures
