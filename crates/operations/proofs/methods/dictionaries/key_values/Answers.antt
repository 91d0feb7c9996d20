use Rattle.std.proofs.Common.{◌≡◌, ◌+◌, ◌∷◌, map, drop, sym, ap, ◌∙◌}
use Rattle.std.proofs.lemmas.List.{drop_all}
use Rattle.values.specs.Data.{text, item, no_items, items_append}
use Rattle.values.specs.View.{items_of}
use Rattle.values.proofs.ItemsLemmas.{items_of-append, items_append_none}
use Rattle.operations.specs.methods.TextLists.{texts}
use Rattle.operations.proofs.TextListLemmas.{next_text, appended}
use Rattle.operations.proofs.methods.dictionaries.key_values.Goals as goal

pub loop-key-preserved : goal.loop-key-preserved
loop-key-preserved c =
    let ks = c.args.keys.now in
    let i = c.loop-key.key-index in
    let old = c.loop-key.values.items in
    let rest = map (λ k. k.now) (drop (i + 1) ks) in
    let next : map (λ k. k.now) (drop i ks) ≡ c.key-item.result.now ∷ rest =
    next_text ks i c.key-item.result c.loop-key-test.true ∙ ap (λ k. k.now ∷ rest) (sym c.key-item.is) in
    ap (λ vs. items_append (items_of vs) (texts rest)) c.in_ok-push.ensures.items
    ∙ ap (λ x. items_append x (texts rest)) (items_of-append old _)
    ∙ ap (λ t. items_append (items_append (items_of old) (item (text t) no_items)) (texts rest)) c.in_ok-clone.ensures.cases
    ∙ appended (items_of old) c.key-item.result.now rest
    ∙ ap (λ ts. items_append (items_of old) (texts ts)) (sym next)
    ∙ c.loop-key.invariant

pub returns : goal.returns
returns c =
    let ks = c.args.keys.now in
    let vs = c.loop-key.values.items in
    sym (items_append_none (items_of vs))
    ∙ ap (λ ts. items_append (items_of vs) (texts (map (λ k. k.now) ts))) (sym (drop_all c.loop-key.key-index ks c.loop-key-test.false))
    ∙ c.loop-key.invariant
