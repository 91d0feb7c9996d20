use Rattle.std.proofs.Common.{ap, arith}
use Rattle.std.proofs.lemmas.Grind.{common_steps}
use Rattle.values.specs.Weight.{weight}
use Rattle.values.specs.View.{data_of}
use Rattle.values.proofs.ItemsLemmas.{weight-le-items_weight}
use Rattle.arguments.proofs.dependencies.+found.Goals as goal

pub all_found-are_found-requires : goal.all_found-are_found-requires
all_found-are_found-requires t c =
    let lighter = weight-le-items_weight c.args.items.now c.loop-item.item-index c.item-item.result c.loop-item-test.true in
    (omega (arith, c.decreases, lighter, ap (λ v. weight (data_of v)) c.item-item.is), tt)

pub all_found-loop-item-init : goal.all_found-loop-item-init
all_found-loop-item-init t c = grind (arith, common_steps)

pub all_found-returns-then-not-are_found : goal.all_found-returns-then-not-are_found
all_found-returns-then-not-are_found t c = grind (arith, common_steps)

pub all_found-loop-item-preserved : goal.all_found-loop-item-preserved
all_found-loop-item-preserved t c = grind (arith, common_steps)

pub all_found-returns : goal.all_found-returns
all_found-returns t c = grind (arith, common_steps)
