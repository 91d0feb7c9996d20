use Rattle.options.proofs.Entries.{option_found}
use Rattle.options.proofs.option_file.declaration.Declared.get.Goals as goal

pub returns : goal.returns
returns c = option_found c.args.name.now c.args.self.now.options.entries c.get.result c.get.ensures.value
