use Rattle.build.specs.View.{facts_view}
use Rattle.introspection.proofs.ReadBack.{reads_info}
use Rattle.introspection.proofs.entries.FactsShown.value.Goals as goal

pub returns-clause-reads : goal.returns-clause-reads
returns-clause-reads c = reads_info (facts_view c.args.self.now)
