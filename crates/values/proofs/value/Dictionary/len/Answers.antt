use Rattle.std.proofs.Common.{ap, arith}
use Rattle.values.specs.Data.{entry_count}
use Rattle.values.proofs.EntriesLemmas.{entry_count-entries_of}
use Rattle.values.proofs.value.Dictionary.len.Goals as goal

pub returns-clause-len : goal.returns-clause-len
returns-clause-len c =
    let n = entry_count-entries_of c.self.inside.keys c.self.inside.values.items c.self.invariant.pairs in
    omega (arith, n, ap entry_count c.self.view_is)
