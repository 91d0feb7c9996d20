use Rattle.std.proofs.Common.{map, ap, refl, sym, arith}
use Rattle.std.proofs.lemmas.List.{nil_from_length}
use Rattle.build.specs.project.View.{install_view}
use Rattle.world.proofs.Answering.{carries_give}
use Rattle.world.proofs.Leading.{leads_start, leads_on, leads_end, leads_stop, leads_as}
use Rattle.resource_calls.specs.Installs.{all_installed}
use Rattle.resource_calls.proofs.installs.install_all.Goals as goal

pub loop-install-init : goal.loop-install-init
loop-install-init g c =
    leads_as (ap (λ is. all_installed (map install_view is)) (sym c.into_iter-install-iterator.ensures.into_iter_gives.0)) leads_start

pub returns-in_err-add_install : goal.returns-in_err-add_install
unfolding all_installed
returns-in_err-add_install g c =
    leads_stop (leads_as (ap (λ is. all_installed (map install_view is)) c.in-Some.ensures.steps.0) c.loop-install.invariant)
    c.in_err-add_install.ensures c.from_residual.ensures.1

pub loop-install-preserved : goal.loop-install-preserved
unfolding all_installed
loop-install-preserved g c =
    leads_on (leads_as (ap (λ is. all_installed (map install_view is)) c.in-Some.ensures.steps.0) c.loop-install.invariant)
    c.in_ok-add_install.ensures

pub returns : goal.returns
unfolding all_installed
returns g c =
    let left = c.loop-install.install-iterator.rest in
    leads_end (leads_as (ap (λ is. all_installed (map install_view is))
    (nil_from_length left.items (omega (arith, left.ok.0, c.in-None.ensures.steps.0)))) c.loop-install.invariant) (carries_give refl)
