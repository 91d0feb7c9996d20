use Rattle.std.proofs.Common.{ap, arith}
use Rattle.values.specs.Weight.{entries_weight}
use Rattle.values.specs.View.{data_of}
use Rattle.values.proofs.BuilderLemmas.{weight_put-le}
use Rattle.operations.proofs.operators.literal.put_entry.Goals as goal

pub returns-clause-light : goal.returns-clause-light
returns-clause-light c =
    let key = c.in-Text.key in
    omega (arith, ap entries_weight c.in_ok-put.ensures, weight_put-le key (data_of c.args.value) c.args.builder.now, c.weight-weight.ensures, c.as_str-key.ensures.within)
