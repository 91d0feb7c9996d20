use Rattle.std.proofs.Common.{◌+◌, drop, sym, ap, ◌∙◌}
use Rattle.std.proofs.lemmas.List.{drop_all}
use Rattle.values.specs.Data.{items_append}
use Rattle.values.specs.View.{items_of}
use Rattle.values.proofs.ItemsLemmas.{one_appended, next_fits, items_append_none}
use Rattle.values.proofs.value.List.extend.Goals as goal

pub push-requires : goal.push-requires
push-requires c =
    let l = c.loop-item in
    let whole = items_append c.args.self.now c.args.other.now in
    next_fits l.self whole c.items-items.result.now c.item-item.result c.in_ok-clone.field-0 l.item-index c.loop-item-test.true c.item-item.is c.in_ok-clone.ensures.cases
    (l.invariant ∙ ap (items_append c.args.self.now) c.items-items.ensures.items) c.requires

pub loop-item-preserved : goal.loop-item-preserved
loop-item-preserved c =
    let l = c.loop-item in
    let items = c.items-items.result.now in
    ap (λ ds. items_append ds (items_of (drop (l.item-index + 1) items))) c.in_ok-push.ensures.ok
    ∙ one_appended l.self items c.item-item.result c.in_ok-clone.field-0 l.item-index c.loop-item-test.true c.item-item.is c.in_ok-clone.ensures.cases
    ∙ l.invariant

pub returns : goal.returns
returns c =
    let l = c.loop-item in
    let none = drop_all l.item-index c.items-items.result.now c.loop-item-test.false in
    sym (items_append_none l.self) ∙ ap (λ r. items_append l.self (items_of r)) (sym none) ∙ l.invariant ∙ ap (items_append c.args.self.now) c.items-items.ensures.items
