use Rattle.std.proofs.Common.{◌≡◌, ◌+◌, ◌∷◌, map, drop, sym, ap, ◌∙◌}
use Rattle.std.specs.Ordering.{nat_cmp}
use Rattle.std.specs.Cmp.Lexicographic.{slice_cmp}
use Rattle.std.proofs.lemmas.List.{drop_more}
use Rattle.operations.specs.methods.Dictionaries.{sorted_with}
use Rattle.operations.proofs.KeyLemmas.{map-insert_key}
use Rattle.operations.proofs.methods.dictionaries.key_set.Goals as goal

pub loop-key-preserved : goal.loop-key-preserved
loop-key-preserved c =
    let ks = c.args.keys.now in
    let i = c.loop-key.key-index in
    let next : drop i ks ≡ c.key-item.result ∷ drop (i + 1) ks =
    drop_more ks i c.key-item.result c.loop-key-test.true ∙ ap (λ k. k ∷ drop (i + 1) ks) (sym c.key-item.is) in
    ap (λ x. sorted_with (map (λ k. k.now) x) (drop (i + 1) ks)) c.in_ok-insert.ensures.keys
    ∙ ap (λ x. sorted_with x (drop (i + 1) ks)) (map-insert_key (λ k. k.now) (slice_cmp nat_cmp) c.loop-key.sorted.keys _)
    ∙ ap (sorted_with (map (λ k. k.now) c.loop-key.sorted.keys)) (sym next)
    ∙ c.loop-key.invariant
