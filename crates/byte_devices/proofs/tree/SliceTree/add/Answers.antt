use Rattle.std.proofs.Common.{◌∙◌, ap}
use Rattle.byte_devices.specs.SlicesView.{files_of}
use Rattle.byte_devices.proofs.Named.{insert_last}
use Rattle.byte_devices.proofs.tree.SliceTree.add.Goals as goal

pub returns : goal.returns
returns c = ap files_of c.in_ok-insert.ensures.entries ∙ insert_last c.args.self.now.files.entries c.args.file.path c.args.file.bytes c.requires
