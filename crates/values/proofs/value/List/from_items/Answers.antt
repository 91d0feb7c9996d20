use Rattle.std.proofs.Common.{sym, ap, ◌∙◌, arith}
use Rattle.values.specs.View.{items_of}
use Rattle.values.specs.Weight.{items_weight, items_depth}
use Rattle.values.proofs.ItemsLemmas.{count-items_of, refused_many, taken_where}
use Rattle.values.proofs.value.List.from_items.Goals as goal

pub returns-then-len-gt-ITEMS : goal.returns-then-len-gt-ITEMS
returns-then-len-gt-ITEMS c =
    refused_many (items_of c.args.items.items) (omega (arith, count-items_of c.args.items.items, c.len.ensures))

pub returns : goal.returns
returns c =
    let vs = c.args.items.items in
    taken_where (items_of vs) c.len-2.result c.weight_of-weight.result c.deepest-depth.result (omega (arith, c.len-2.ensures, count-items_of vs))
    (c.weight_of-weight.ensures.weight ∙ ap (λ xs. items_weight (items_of xs)) c.deref.ensures.value)
    (c.deepest-depth.ensures.deepest ∙ ap (λ xs. items_depth (items_of xs)) c.deref-2.ensures.value)
    (sym c.is_within.ensures ∙ c.if-not-is_within.false)
