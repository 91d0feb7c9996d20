use Rattle.std.proofs.Common.{map}
use Rattle.build.specs.project.View.{install_view}
use Rattle.introspection.proofs.Keys.{reads_installs}
use Rattle.introspection.proofs.Lists.{always}
use Rattle.introspection.proofs.entries.DestinationsShown.value.Goals as goal

pub returns-clause-reads : goal.returns-clause-reads
returns-clause-reads c = always c.installed_at.result _ (reads_installs (map install_view c.args.self.now.installs.now))
