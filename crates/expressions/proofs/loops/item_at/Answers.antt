use Rattle.std.proofs.Common.{◌+◌, None, ◌∷◌, drop, ap, sym, ◌∙◌}
use Rattle.values.specs.View.{data_of, items_of}
use Rattle.expressions.specs.Rounds.{item_rounds}
use Rattle.expressions.proofs.Walking.{items_behind, item_there}
use Rattle.expressions.proofs.loops.item_at.Goals as goal

pub returns-then-at-items : goal.returns-then-at-items
returns-then-at-items c = items_behind c.args.items.now c.args.at c.if-at-items.true

pub returns : goal.returns
returns c =
    item_there c.args.items.now c.args.at c.index-items-at.result c.if-at-items.false
    ∙ ap (λ d. (d, None) ∷ drop (c.args.at + 1) (item_rounds (items_of c.args.items.now))) (sym (c.in_ok-item.ensures.cases ∙ ap data_of c.index-items-at.is))
