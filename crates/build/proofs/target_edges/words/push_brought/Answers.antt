use Rattle.std.proofs.Common.{◌≡◌, ◌<◌, ◌≤◌, ◌+◌, ◌++◌, ◌∷◌, ◌∙◌, ℕ, List, [], ap, get_or, length, subst, sym, take}
use Rattle.std.specs.Prelude.{flat_map}
use Rattle.std.proofs.lemmas.List.{flat_map_more, take_all, take_more}
use Rattle.build.specs.Data.{ListsData}
use Rattle.build.specs.edge.Texts.{texts}
use Rattle.build.specs.View.{lists_view}
use Rattle.build.specs.target_edges.Words.{texts_of}
use Rattle.build.proofs.ListLemmas.{flat_map-map}
use Rattle.build.proofs.target_edges.words.push_brought.Goals as goal

-- what the lists up to a place bring, and what the one there does
one_more : {X A : Type 0} (f : X → List A) (old words new brought : List A) (xs ys : List X) (i : ℕ) (x : X) → xs ≡ ys → x ≡ get_or xs i x → i < length xs
    → words ≡ old ++ flat_map f (take i ys) → brought ≡ f x → new ≡ words ++ brought → new ≡ old ++ flat_map f (take (i + 1) ys)
one_more f old words new brought xs ys i x same at lt before is after =
    after ∙ ap (λ b. words ++ b) is ∙ ap (λ w. w ++ f x) (before ∙ ap (λ zs. old ++ flat_map f (take i zs)) (sym same)) ∙ flat_map_more f old (take i xs) x
    ∙ ap (λ zs. old ++ flat_map f zs) (ap (λ y. take i xs ++ y ∷ []) at ∙ sym (take_more xs i x lt)) ∙ ap (λ zs. old ++ flat_map f (take (i + 1) zs)) same

pub loop-lists-preserved : goal.loop-lists-preserved
loop-lists-preserved c =
    one_more (λ d. texts_of c.args.what (lists_view d.value)) _ _ _ _ c.deref-lists-items.result.now _ c.loop-lists.lists-index c.lists-item.result c.deref-lists-items.ensures.value c.lists-item.is
    c.loop-lists-test.true c.loop-lists.invariant (c.of.ensures ∙ ap (λ l. texts_of c.args.what (lists_view l)) c.deref.ensures) c.in_ok-push_copies.ensures

pub returns : goal.returns
returns c =
    let deps = c.args.target.now.dependencies.items in
    let old = texts c.args.words.now.items in
    let whole : length deps ≤ c.loop-lists.lists-index = subst (λ ds. length ds ≤ c.loop-lists.lists-index) c.deref-lists-items.ensures.value c.loop-lists-test.false in
    c.loop-lists.invariant
    ∙ ap (λ ds. old ++ flat_map (λ d. texts_of c.args.what (lists_view d.value)) ds) (take_all c.loop-lists.lists-index deps whole)
    ∙ ap (λ ws. old ++ ws) (sym (flat_map-map (λ (l : ListsData). texts_of c.args.what l) (λ l. lists_view l.value) deps))
