use Rattle.std.proofs.Common.{string_bytes}
use Rattle.ports.specs.DiskTree.Closed.{owes_nothing}
use Rattle.ports.proofs.disk_tree.DiskTreeTree.size.Goals as goal

pub returns-in-Ok-clause-size : goal.returns-in-Ok-clause-size
returns-in-Ok-clause-size g c = λ steady. owes_nothing (string_bytes c.args.self.now.folder) steady
