use Rattle.std.proofs.Common.{map, string_bytes, codes, ◌++◌, ap, refl, ◌∙◌}
use Rattle.std.proofs.lemmas.List.{drop_all}
use Rattle.world.specs.Deed.{say}
use Rattle.world.proofs.Answering.{carries_as, carries_give, carries_none}
use Rattle.world.proofs.Leading.{leads_start, leads_on, leads_end, leads_stop, leads_as, room_on}
use Rattle.project_calls.specs.Project.{option_warnings}
use Rattle.project_calls.proofs.Warnings.{warned-drop}
use Rattle.project_calls.proofs.project_call.warn.Goals as goal

pub loop-name-init : goal.loop-name-init
loop-name-init g c = leads_start

pub say-requires : goal.say-requires
say-requires g c = room_on c.loop-name.invariant c.requires

pub returns-in_err-line : goal.returns-in_err-line
returns-in_err-line g c = leads_end c.loop-name.invariant (carries_none c.from_residual.ensures.1)

pub returns-in_err-say : goal.returns-in_err-say
returns-in_err-say g c =
    let l = c.loop-name in
    leads_stop (leads_as (warned-drop c.args.names.now l.name-index c.name-item.result c.loop-name-test.true c.name-item.is) l.invariant)
    (carries_as (ap say (c.as_str-in-loop-name.ensures.value ∙ c.in_ok-line.ensures ∙ ap (λ t. (codes "WARNING: unknown option " ++ t) ++ codes "\n") c.as_str.ensures.value)) c.in_err-say.ensures) c.from_residual-in_err-say.ensures.1

pub loop-name-preserved : goal.loop-name-preserved
loop-name-preserved g c =
    let l = c.loop-name in
    leads_on (leads_as (warned-drop c.args.names.now l.name-index c.name-item.result c.loop-name-test.true c.name-item.is) l.invariant)
    (carries_as (ap say (c.as_str-in-loop-name.ensures.value ∙ c.in_ok-line.ensures ∙ ap (λ t. (codes "WARNING: unknown option " ++ t) ++ codes "\n") c.as_str.ensures.value)) c.in_ok-say.ensures)

pub returns : goal.returns
unfolding option_warnings
returns g c =
    let l = c.loop-name in
    leads_end (leads_as (ap (λ ns. option_warnings (map string_bytes ns)) (drop_all l.name-index c.args.names.now c.loop-name-test.false)) l.invariant) (carries_give refl)
