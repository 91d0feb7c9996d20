use Rattle.std.proofs.Common.{◌≤◌, length, subst, sym, arith}
use Rattle.std.proofs.lemmas.Grind.{common_steps, elements}
use Rattle.std.proofs.lemmas.List.{take_all}
use Rattle.std.proofs.lemmas.Option.{get_or_from_slice_get, slice_get_within}
use Rattle.std.proofs.lemmas.Result.{on_ok_weaker}
use Rattle.serde.specs.Event.{WritesEach}
use Rattle.serde.proofs.Events.{WritesEach-more}
use Rattle.machine_file.specs.View.{entries_of, shown_in}
use Rattle.introspection.specs.Questions.{entry_member}
use Rattle.introspection.proofs.Sent.{SendsMember, ordered_sent}
use Rattle.introspection.proofs.questions.send_section.Goals as goal

pub loop-i-preserved : goal.loop-i-preserved
loop-i-preserved g c =
    let es = entries_of c.args.section.now in
    let e = shown_in (c.in-Some.key, c.in-Some.entry) in
    let log = g.S.Serializer.written in
    WritesEach-more (λ x. SendsMember (entry_member x)) es c.loop-i.i e (log c.begin_map.new.self) (log c.loop-i.out) (log c.send_value.new.out)
    (slice_get_within es c.loop-i.i e (sym c.in-Some.ensures)) (sym (get_or_from_slice_get es c.loop-i.i e e (sym c.in-Some.ensures))) c.loop-i.invariant
    (record { named = log c.key.new.self; key = c.in_ok-key.ensures; value = c.in_ok-send_value.ensures })

pub returns-in_default : goal.returns-in_default
returns-in_default g c = grind (arith, elements)

pub returns : goal.returns
returns g c =
    let es = entries_of c.args.section.now in
    let log = g.S.Serializer.written in
    let all : length es ≤ c.loop-i.i = grind (arith, common_steps, c.len.ensures, c.len-i-end.ensures) in
    on_ok_weaker c.end_map-2.result (λ ended. ordered_sent entry_member es c.len.result (log c.args.out.now) (log c.begin_map.new.self) (log c.loop-i.out)
    (log c.end_map-2.new.self) c.len.ensures c.in_ok-begin_map.ensures
    (subst (λ xs. WritesEach (λ x. SendsMember (entry_member x)) xs (log c.begin_map.new.self) (log c.loop-i.out)) (take_all c.loop-i.i es all) c.loop-i.invariant) ended)
    c.end_map-2.ensures
