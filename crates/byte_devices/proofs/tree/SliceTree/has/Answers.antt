use Rattle.std.proofs.Common.{◌∙◌}
use Rattle.byte_devices.proofs.Named.{is_some-lookup}
use Rattle.byte_devices.proofs.tree.SliceTree.has.Goals as goal

pub returns : goal.returns
returns c = c.contains_key.ensures ∙ is_some-lookup c.args.path.now c.args.self.now.files.entries
