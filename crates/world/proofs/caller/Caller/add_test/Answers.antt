use Rattle.std.proofs.Common.{refl}
use Rattle.build.specs.project.Adding.{with_test}
use Rattle.build.specs.project.View.{test_view}
use Rattle.world.specs.Declaring.{add_test}
use Rattle.world.proofs.Answering.{carries_change, carries_wanted}
use Rattle.world.proofs.Marks.{same_front}
use Rattle.world.proofs.Setting.{project_made}
use Rattle.world.proofs.caller.Caller.add_test.Goals as goal

pub returns-in_err-add_test : goal.returns-in_err-add_test
returns-in_err-add_test g c = carries_wanted c.from_residual.ensures.1 (same_front c.args.self.now.store.now.names)

pub returns : goal.returns
unfolding add_test
returns g c = carries_change {x = tt {0}}
    (project_made c.args.self.now.store.now (λ p. with_test p (test_view c.args.test)) c.project_mut.ensures.value c.in_ok-add_test.ensures.ok) refl
