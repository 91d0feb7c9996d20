use Rattle.std.proofs.Common.{string_bytes}
use Rattle.ports.specs.DiskTree.Closed.{owes_nothing}
use Rattle.ports.proofs.disk_tree.DiskTreeTree.read_at.Goals as goal

pub returns-in_default-clause-bytes : goal.returns-in_default-clause-bytes
returns-in_default-clause-bytes g c = λ steady. owes_nothing (string_bytes c.args.self.now.folder) steady

pub returns-in-Ok-read_part-clause-bytes : goal.returns-in-Ok-read_part-clause-bytes
returns-in-Ok-read_part-clause-bytes g c = λ steady. owes_nothing (string_bytes c.args.self.now.folder) steady
