use Rattle.std.proofs.Common.{ap, arith}
use Rattle.values.specs.Weight.{weight}
use Rattle.values.specs.View.{data_of}
use Rattle.values.proofs.ItemsLemmas.{weight-le-items_weight}
use Rattle.values.proofs.flat_texts.+texts.Goals as goal

pub items_are_texts-is_texts-requires : goal.items_are_texts-is_texts-requires
items_are_texts-is_texts-requires t c =
    let lighter = weight-le-items_weight c.args.items.now c.loop-item.item-index c.item-item.result c.loop-item-test.true in
    (omega (arith, c.decreases, lighter, ap (λ v. weight (data_of v)) c.item-item.is), tt)
