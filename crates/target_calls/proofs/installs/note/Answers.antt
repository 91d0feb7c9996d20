use Rattle.std.proofs.Common.{refl, ap, option_map, sym}
use Rattle.build.specs.project.View.{install_view}
use Rattle.world.proofs.Answering.{carries_as, carries_give}
use Rattle.target_calls.specs.Installs.{noted_install}
use Rattle.target_calls.proofs.installs.note.Goals as goal

pub returns-in-Some : goal.returns-in-Some
unfolding noted_install
returns-in-Some g c = carries_as (ap (λ i. noted_install (option_map install_view i)) (sym c.in-Some.is)) c.add_install.ensures

pub returns-in-None : goal.returns-in-None
unfolding noted_install
returns-in-None g c = carries_as (ap (λ i. noted_install (option_map install_view i)) (sym c.in-None.is)) (carries_give refl)
