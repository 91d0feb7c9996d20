use Rattle.std.proofs.Common.{ap, refl, ◌∙◌}
use Rattle.build.specs.edge.Texts.{texts}
use Rattle.build.specs.project.Adding.{arguments_answer}
use Rattle.world.specs.Declaring.{add_arguments, after_arguments}
use Rattle.world.proofs.Answering.{carries_wanted}
use Rattle.world.proofs.Declaring.{carries_declared}
use Rattle.world.proofs.Marks.{same_front}
use Rattle.world.proofs.Setting.{project_made}
use Rattle.world.proofs.caller.Caller.add_arguments.Goals as goal

pub returns-in_err-answer : goal.returns-in_err-answer
returns-in_err-answer g c = carries_wanted c.from_residual.ensures.1 (same_front c.args.self.now.store.now.names)

pub returns : goal.returns
unfolding add_arguments
returns g c = carries_declared _ _ _ _ (c.in_ok-answer.ensures.answer ∙ ap (λ p. arguments_answer p (texts c.args.words.now)) c.project_mut.ensures.value)
    (project_made c.args.self.now.store.now (after_arguments (texts c.args.words.now)) c.project_mut.ensures.value c.in_ok-answer.ensures.ok) refl c.allow.ensures
