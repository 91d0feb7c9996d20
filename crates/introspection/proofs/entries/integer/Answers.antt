use Rattle.introspection.proofs.ReadBack.{reads_integer}
use Rattle.introspection.proofs.entries.integer.Goals as goal

pub returns-clause-reads : goal.returns-clause-reads
returns-clause-reads c = reads_integer c.args.n c.ranges.n
