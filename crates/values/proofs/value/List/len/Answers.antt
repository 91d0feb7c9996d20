use Rattle.std.proofs.Common.{ap, arith}
use Rattle.values.specs.Data.{count}
use Rattle.values.proofs.ItemsLemmas.{count-items_of}
use Rattle.values.proofs.value.List.len.Goals as goal

pub returns-clause-len : goal.returns-clause-len
returns-clause-len c = omega (arith, count-items_of c.self.inside.items.items, ap count c.self.view_is)
