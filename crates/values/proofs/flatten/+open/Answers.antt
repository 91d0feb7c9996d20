use Rattle.std.proofs.Common.{ap, arith}
use Rattle.values.specs.Weight.{weight}
use Rattle.values.specs.View.{data_of}
use Rattle.values.proofs.ItemsLemmas.{weight-le-items_weight}
use Rattle.values.proofs.flatten.+open.Goals as goal

pub open_items-open-requires : goal.open_items-open-requires
open_items-open-requires t c =
    let lighter = weight-le-items_weight c.args.items.now c.loop-item.item-index c.item-item.result c.loop-item-test.true in
    (omega (arith, c.decreases, lighter, ap (λ v. weight (data_of v)) c.item-item.is), tt)
