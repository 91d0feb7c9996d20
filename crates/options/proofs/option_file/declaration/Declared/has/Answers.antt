use Rattle.std.proofs.Common.{◌∙◌}
use Rattle.options.proofs.Entries.{is_used_lookup}
use Rattle.options.proofs.option_file.declaration.Declared.has.Goals as goal

pub returns : goal.returns
returns c = c.contains_key.ensures ∙ is_used_lookup c.args.name.now c.args.self.now.options.entries
