use Rattle.std.proofs.Common.{ap, refl, ◌∙◌}
use Rattle.build.specs.project.Adding.{output_answer}
use Rattle.world.specs.Making.{after_output}
use Rattle.world.proofs.Acting.{acts_taken, acts_wanted}
use Rattle.world.proofs.Marks.{same_front}
use Rattle.world.proofs.Setting.{project_made}
use Rattle.world.proofs.caller.Caller.take_output.Goals as goal

pub returns-in_err-answer : goal.returns-in_err-answer
returns-in_err-answer g c = acts_wanted c.from_residual.ensures.1 (same_front c.args.self.now.store.now.names)

pub returns : goal.returns
returns g c = acts_taken c.args.folder.now c.args.name.now _ (c.in_ok-answer.ensures.answer ∙ ap (λ p. output_answer p c.args.folder.now c.args.name.now) c.project_mut.ensures.value)
    (project_made c.args.self.now.store.now (after_output c.args.folder.now c.args.name.now) c.project_mut.ensures.value c.in_ok-answer.ensures.ok) refl c.allow.ensures
