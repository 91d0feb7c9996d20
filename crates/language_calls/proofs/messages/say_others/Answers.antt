use Rattle.std.proofs.Common.{map, ap, refl}
use Rattle.std.proofs.lemmas.List.{drop_all}
use Rattle.values.specs.View.{data_of}
use Rattle.world.proofs.Answering.{carries_give}
use Rattle.world.proofs.Leading.{leads_start, leads_on, leads_end, leads_stop, leads_as, room_on}
use Rattle.language_calls.specs.Saying.{behind_spaces, say_each}
use Rattle.language_calls.proofs.Saying.{behind-drop}
use Rattle.language_calls.proofs.messages.say_others.Goals as goal

pub loop-value-init : goal.loop-value-init
loop-value-init g c = leads_start

pub say-requires : goal.say-requires
say-requires g c = room_on c.loop-value.invariant c.requires

pub returns-in_err-say : goal.returns-in_err-say
returns-in_err-say g c =
    let l = c.loop-value in
    leads_stop (leads_as (ap say_each (behind-drop c.args.values.now l.value-index c.value-item.result c.loop-value-test.true c.value-item.is)) l.invariant)
    c.in_err-say.ensures c.from_residual.ensures.1

pub say_value-requires : goal.say_value-requires
say_value-requires g c =
    let l = c.loop-value in
    room_on
    (leads_on (leads_as (ap say_each (behind-drop c.args.values.now l.value-index c.value-item.result c.loop-value-test.true c.value-item.is)) l.invariant) c.in_ok-say.ensures)
    c.requires

pub returns-in_err-say_value : goal.returns-in_err-say_value
returns-in_err-say_value g c =
    let l = c.loop-value in
    leads_stop
    (leads_on (leads_as (ap say_each (behind-drop c.args.values.now l.value-index c.value-item.result c.loop-value-test.true c.value-item.is)) l.invariant) c.in_ok-say.ensures)
    c.in_err-say_value.ensures c.from_residual-in_err-say_value.ensures.1

pub loop-value-preserved : goal.loop-value-preserved
loop-value-preserved g c =
    let l = c.loop-value in
    leads_on
    (leads_on (leads_as (ap say_each (behind-drop c.args.values.now l.value-index c.value-item.result c.loop-value-test.true c.value-item.is)) l.invariant) c.in_ok-say.ensures)
    c.in_ok-say_value.ensures

pub returns : goal.returns
returns g c =
    let l = c.loop-value in
    leads_end (leads_as (ap (λ vs. say_each (behind_spaces (map data_of vs))) (drop_all l.value-index c.args.values.now c.loop-value-test.false)) l.invariant)
    (carries_give refl)
