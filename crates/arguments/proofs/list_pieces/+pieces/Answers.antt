use Rattle.std.proofs.Common.{ap, arith}
use Rattle.std.proofs.lemmas.Grind.{common_steps}
use Rattle.values.specs.Weight.{weight}
use Rattle.values.specs.View.{data_of}
use Rattle.values.proofs.ItemsLemmas.{weight-le-items_weight}
use Rattle.arguments.proofs.list_pieces.+pieces.Goals as goal

pub all_pieces-are_pieces-requires : goal.all_pieces-are_pieces-requires
all_pieces-are_pieces-requires t c =
    let lighter = weight-le-items_weight c.args.items.now c.loop-item.item-index c.item-item.result c.loop-item-test.true in
    (omega (arith, c.decreases, lighter, ap (λ v. weight (data_of v)) c.item-item.is), tt)

pub all_pieces-loop-item-init : goal.all_pieces-loop-item-init
all_pieces-loop-item-init t c = grind (arith, common_steps)

pub all_pieces-returns-then-not-are_pieces : goal.all_pieces-returns-then-not-are_pieces
all_pieces-returns-then-not-are_pieces t c = grind (arith, common_steps)

pub all_pieces-loop-item-preserved : goal.all_pieces-loop-item-preserved
all_pieces-loop-item-preserved t c = grind (arith, common_steps)

pub all_pieces-returns : goal.all_pieces-returns
all_pieces-returns t c = grind (arith, common_steps)
