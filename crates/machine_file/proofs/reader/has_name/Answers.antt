use Rattle.std.proofs.Common.{◌∙◌}
use Rattle.machine_file.proofs.Entries.{has_name_lookup}
use Rattle.machine_file.proofs.reader.has_name.Goals as goal

pub returns : goal.returns
returns c = c.contains_key.ensures ∙ has_name_lookup c.args.name.now c.args.sections.now.entries
