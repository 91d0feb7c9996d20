use Rattle.machine_file.proofs.Entries.{none_from}
use Rattle.machine_file.proofs.reader.put.Goals as goal

pub returns : goal.returns
returns g c = c.in_ok-insert.ensures.last (none_from _ c.requires)
