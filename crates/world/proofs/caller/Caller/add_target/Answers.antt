use Rattle.std.proofs.Common.{ap, refl, ◌∙◌}
use Rattle.build.specs.View.{target_view}
use Rattle.build.specs.project.Adding.{after_target, target_answer}
use Rattle.world.specs.Declaring.{add_target}
use Rattle.world.proofs.Answering.{carries_wanted}
use Rattle.world.proofs.Declaring.{carries_declared}
use Rattle.world.proofs.Marks.{same_front}
use Rattle.world.proofs.Setting.{project_made}
use Rattle.world.proofs.caller.Caller.add_target.Goals as goal

pub returns-in_err-answer : goal.returns-in_err-answer
returns-in_err-answer g c = carries_wanted c.from_residual.ensures.1 (same_front c.args.self.now.store.now.names)

pub returns : goal.returns
unfolding add_target
returns g c = carries_declared _ _ _ _ (c.in_ok-answer.ensures.answer ∙ ap (λ p. target_answer p (target_view c.args.target)) c.project_mut.ensures.value)
    (project_made c.args.self.now.store.now (λ p. after_target p (target_view c.args.target)) c.project_mut.ensures.value c.in_ok-answer.ensures.ok) refl c.allow.ensures
