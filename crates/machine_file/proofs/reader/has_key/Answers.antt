use Rattle.std.proofs.Common.{◌∙◌}
use Rattle.machine_file.proofs.Entries.{has_key_lookup}
use Rattle.machine_file.proofs.reader.has_key.Goals as goal

pub returns : goal.returns
returns c = c.contains_key.ensures ∙ has_key_lookup c.args.key.now c.args.entries.now.entries
