use Rattle.std.proofs.Common.{◌+◌, sym, ap, ◌∙◌, arith}
use Rattle.values.specs.Data.{count}
use Rattle.values.specs.Weight.{items_weight, items_depth}
use Rattle.values.specs.Limits.{items_fit}
use Rattle.values.specs.View.{items_of}
use Rattle.values.proofs.ItemsLemmas.{count-items_of, within_from}
use Rattle.values.proofs.value.List.items.Goals as goal

pub returns-clause-within : goal.returns-clause-within
returns-clause-within c =
    let ds = items_of c.self.inside.items.items in
    ap items_fit (sym c.self.view_is)
    ∙ within_from (count ds) (items_weight ds + 1) (items_depth ds + 1) (omega (arith, count-items_of c.self.inside.items.items, c.self.invariant.few)) (omega (arith, c.self.invariant.weight, c.self.invariant.light)) (omega (arith, c.self.invariant.depth, c.self.invariant.shallow))
