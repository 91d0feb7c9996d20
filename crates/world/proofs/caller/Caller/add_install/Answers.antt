use Rattle.std.proofs.Common.{refl}
use Rattle.build.specs.project.Adding.{with_install}
use Rattle.build.specs.project.View.{install_view}
use Rattle.world.specs.Declaring.{add_install}
use Rattle.world.proofs.Answering.{carries_change, carries_wanted}
use Rattle.world.proofs.Marks.{same_front}
use Rattle.world.proofs.Setting.{project_made}
use Rattle.world.proofs.caller.Caller.add_install.Goals as goal

pub returns-in_err-add_install : goal.returns-in_err-add_install
returns-in_err-add_install g c = carries_wanted c.from_residual.ensures.1 (same_front c.args.self.now.store.now.names)

pub returns : goal.returns
unfolding add_install
returns g c = carries_change {x = tt {0}}
    (project_made c.args.self.now.store.now (λ p. with_install p (install_view c.args.install)) c.project_mut.ensures.value c.in_ok-add_install.ensures.ok) refl
