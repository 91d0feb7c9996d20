use Rattle.std.proofs.Common.{ap, arith}
use Rattle.values.specs.Weight.{weight}
use Rattle.values.specs.View.{data_of, items_of}
use Rattle.values.proofs.FlatLists.{opened-le-weight, opened_items-le-weight}
use Rattle.values.proofs.ItemsLemmas.{weight-le-items_weight}
use Rattle.values.proofs.flatten.+count.Goals as goal

pub count_items-flattened_count-found-requires : goal.count_items-flattened_count-found-requires
count_items-flattened_count-found-requires t c =
    let lighter = weight-le-items_weight c.args.items.now c.loop-item.item-index c.item-item.result c.loop-item-test.true in
    (omega (arith, c.decreases, lighter, ap (λ v. weight (data_of v)) c.item-item.is), tt)

pub count_items-overflow_add-found : goal.count_items-overflow_add-found
count_items-overflow_add-found t c =
    let lighter = weight-le-items_weight c.args.items.now c.loop-item.item-index c.item-item.result c.loop-item-test.true in
    omega (
      arith,
      c.flattened_count-found.ensures,
      opened-le-weight (data_of c.item-item.result),
      opened_items-le-weight (items_of c.args.items.now),
      lighter,
      ap (λ v. weight (data_of v)) c.item-item.is,
      c.loop-item.invariant,
      c.requires,
    )
