use Rattle.build.specs.View.{target_view}
use Rattle.introspection.proofs.Lists.{always}
use Rattle.introspection.proofs.ReadBack.{reads_target}
use Rattle.introspection.proofs.entries.DeclaredTargetShown.value.Goals as goal

pub returns-in-Build-clause-reads : goal.returns-in-Build-clause-reads
returns-in-Build-clause-reads c = always c.build_value.result _ (reads_target (target_view c.args.self.now.target))

pub returns-in-Custom-clause-reads : goal.returns-in-Custom-clause-reads
returns-in-Custom-clause-reads c = always c.custom_value.result _ (reads_target (target_view c.args.self.now.target))
