use Rattle.std.proofs.Common.{map, string_bytes, ap, refl, ◌∙◌}
use Rattle.std.proofs.lemmas.List.{drop_all}
use Rattle.world.specs.Declaring.{add_install}
use Rattle.world.proofs.Answering.{carries_as, carries_give, carries_none}
use Rattle.world.proofs.Leading.{leads_start, leads_on, leads_end, leads_stop, leads_as}
use Rattle.target_calls.specs.CustomInstalls.{all_noted, output_install}
use Rattle.target_calls.specs.CustomInstallsView.{way_view}
use Rattle.target_calls.proofs.Noting.{all_noted-drop}
use Rattle.target_calls.proofs.custom_installs.note_all.Goals as goal

pub loop-name-init : goal.loop-name-init
loop-name-init g c = leads_start

pub returns-in_err-install : goal.returns-in_err-install
returns-in_err-install g c = leads_end c.loop-name.invariant (carries_none c.from_residual.ensures.1)

pub returns-in_err-add_install : goal.returns-in_err-add_install
returns-in_err-add_install g c =
    let l = c.loop-name in
    let install = c.in_ok-install.ensures ∙ ap (output_install (way_view c.args.way.now)) c.as_str.ensures.value in
    leads_stop (leads_as (all_noted-drop (way_view c.args.way.now) c.args.names.now l.name-index c.name-item.result c.loop-name-test.true c.name-item.is) l.invariant)
    (carries_as (ap add_install install) c.in_err-add_install.ensures) c.from_residual-in_err-add_install.ensures.1

pub loop-name-preserved : goal.loop-name-preserved
loop-name-preserved g c =
    let l = c.loop-name in
    let install = c.in_ok-install.ensures ∙ ap (output_install (way_view c.args.way.now)) c.as_str.ensures.value in
    leads_on (leads_as (all_noted-drop (way_view c.args.way.now) c.args.names.now l.name-index c.name-item.result c.loop-name-test.true c.name-item.is) l.invariant)
    (carries_as (ap add_install install) c.in_ok-add_install.ensures)

pub returns : goal.returns
unfolding all_noted
returns g c =
    let l = c.loop-name in
    leads_end (leads_as (ap (λ ns. all_noted (way_view c.args.way.now) (map string_bytes ns)) (drop_all l.name-index c.args.names.now c.loop-name-test.false)) l.invariant)
    (carries_give refl)
