use Rattle.std.proofs.Common.{arith}
use Rattle.std.proofs.lemmas.Grind.{elements}
use Rattle.options.proofs.option_file.declaration.Declared.at.Goals as goal

pub returns : goal.returns
returns c = grind (arith, elements)
