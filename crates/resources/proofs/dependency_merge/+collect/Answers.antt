use Rattle.std.proofs.Common.{◌≡◌, ℕ, ◌+◌, ◌<◌, ◌≤◌, List, ◌++◌, length, drop, get_or, map, OnOk, refl, sym, ap, subst, ◌∙◌}
use Rattle.std.proofs.Common.{append-nil, append_assoc, arith}
use Rattle.std.proofs.lemmas.List.{at_drop_all, at_drop_more}
use Rattle.values.specs.Weight.{weight}
use Rattle.values.specs.View.{data_of, items_of}
use Rattle.values.specs.declared.object.Dependency.{Dependency}
use Rattle.values.specs.declared.value.Value.{Value}
use Rattle.values.proofs.ItemsLemmas.{weight-le-items_weight}
use Rattle.resources.specs.Joined.{dependencies_in, dependencies_of}
use Rattle.resources.proofs.dependency_merge.+collect.Goals as goal

-- those of one item more
one_more : (old new all : List Dependency) (items : List Value) (i : ℕ) (v : Value) → i < length items → v ≡ get_or items i v
    → new ≡ old ++ dependencies_in (data_of v) → old ++ dependencies_of (items_of (drop i items)) ≡ all
    → new ++ dependencies_of (items_of (drop (i + 1) items)) ≡ all
one_more old new all items i v h is e now =
    let rest = dependencies_of (items_of (drop (i + 1) items)) in
    ap (λ x. x ++ rest) e
    ∙ append_assoc old (dependencies_in (data_of v)) rest
    ∙ ap (λ x. old ++ (dependencies_in (data_of x) ++ rest)) is
    ∙ sym (at_drop_more (λ us. old ++ dependencies_of (items_of us)) items i v h)
    ∙ now

no_more : (old all : List Dependency) (items : List Value) (i : ℕ) → length items ≤ i
    → old ++ dependencies_of (items_of (drop i items)) ≡ all → old ≡ all
no_more old all items i h now =
    sym (append-nil old) ∙ sym (at_drop_all (λ us. old ++ dependencies_of (items_of us)) items i h) ∙ now

pub collect_items-collect-requires : goal.collect_items-collect-requires
collect_items-collect-requires t c =
    let lighter = weight-le-items_weight c.args.items.now c.loop-item.item-index c.item-item.result c.loop-item-test.true in
    (omega (arith, c.decreases, lighter, ap (λ v. weight (data_of v)) c.item-item.is), tt)

pub collect_items-loop-item-init : goal.collect_items-loop-item-init
collect_items-loop-item-init t c = refl

pub collect_items-loop-item-preserved : goal.collect_items-loop-item-preserved
collect_items-loop-item-preserved t c =
    one_more _ _ _ c.args.items.now c.loop-item.item-index c.item-item.result c.loop-item-test.true c.item-item.is c.in_ok-collect.ensures
    c.loop-item.invariant

pub collect_items-returns : goal.collect_items-returns
collect_items-returns t c = no_more _ _ c.args.items.now c.loop-item.item-index c.loop-item-test.false c.loop-item.invariant

pub collect-returns-in-List : goal.collect-returns-in-List
collect-returns-in-List t c =
    let same : dependencies_of (items_of c.items.result.now) ≡ dependencies_in (data_of c.args.value.now) =
    ap dependencies_of (c.items.ensures.items ∙ c.deref-in-List.ensures) ∙ sym (ap (λ v. dependencies_in (data_of v)) c.in-List.is) in
    let old = map (λ d. d.now) c.args.found.now.items in
    subst (λ ds. OnOk c.collect_items.result (map (λ d. d.now) c.collect_items.new.found.items ≡ old ++ ds)) same c.collect_items.ensures
