use Rattle.build.specs.project.View.{answer_view}
use Rattle.introspection.proofs.ReadBack.{reads_dependency}
use Rattle.introspection.proofs.entries.AnswerShown.value.Goals as goal

pub returns-clause-reads : goal.returns-clause-reads
returns-clause-reads c = reads_dependency (answer_view c.args.self.now)
