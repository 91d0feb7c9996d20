use Rattle.std.proofs.Common.{ap, arith}
use Rattle.values.specs.Weight.{entries_weight}
use Rattle.values.proofs.value.builder.DictionaryBuilder.copy_of.Goals as goal

pub returns-clause-within : goal.returns-clause-within
returns-clause-within c = omega (arith, ap entries_weight (c.in_ok-put_all.ensures.copied c.new-copy.ensures), c.in_ok-put_all.ensures.within)
