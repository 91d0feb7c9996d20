use Rattle.std.proofs.Common.{refl}
use Rattle.build.specs.project.Adding.{with_dependency}
use Rattle.build.specs.project.View.{answer_view}
use Rattle.world.specs.Declaring.{add_dependency}
use Rattle.world.proofs.Answering.{carries_change, carries_wanted}
use Rattle.world.proofs.Marks.{same_front}
use Rattle.world.proofs.Setting.{project_made}
use Rattle.world.proofs.caller.Caller.add_dependency.Goals as goal

pub returns-in_err-add_dependency : goal.returns-in_err-add_dependency
returns-in_err-add_dependency g c = carries_wanted c.from_residual.ensures.1 (same_front c.args.self.now.store.now.names)

pub returns : goal.returns
unfolding add_dependency
returns g c = carries_change {x = tt {0}}
    (project_made c.args.self.now.store.now (λ p. with_dependency p (answer_view c.args.answer)) c.project_mut.ensures.value c.in_ok-add_dependency.ensures.ok) refl
