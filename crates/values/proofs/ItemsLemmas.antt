-- Items, and the lists of values that they stand for.
use Rattle.std.proofs.Common.{◌≡◌, ℕ, zero, suc, ◌+◌, ◌<◌, ◌≤◌, Bool, true, false, List, [], ◌∷◌, ◌++◌, length, get_or, drop, refl, sym, ap}
use Rattle.std.proofs.Common.{◌∙◌, arith, add-one}
use Rattle.std.proofs.Math.Seq.{drop-cons}
use Rattle.std.specs.Prelude.{max, ◌||◌, Ok, Err, if◌then◌else◌}
use Rattle.std.proofs.lemmas.Bool.Decides.{nat_tests}
use Rattle.values.specs.declared.refusal.OperationRefusal.TheVariants as refusal
use Rattle.values.specs.Data.{Data, Items, no_items, item, items_append, count}
use Rattle.values.specs.Data.{has_disabler, have_disabler}
use Rattle.values.specs.Weight.{weight, depth, items_weight, items_depth}
use Rattle.values.specs.Limits.{is_within, items_fit}
use Rattle.values.specs.View.{data_of, items_of}
use Rattle.values.specs.declared.value.Value.{Value}

pub count-items_of : (vs : List Value) → count (items_of vs) ≡ length vs
count-items_of [] = refl
count-items_of (v ∷ vs) = ap suc (count-items_of vs)

pub items_of-append : (xs ys : List Value) → items_of (xs ++ ys) ≡ items_append (items_of xs) (items_of ys)
items_of-append [] ys = refl
items_of-append (x ∷ xs) ys = ap (item (data_of x)) (items_of-append xs ys)

pub items_append_assoc : (a b c : Items) → items_append (items_append a b) c ≡ items_append a (items_append b c)
items_append_assoc no_items b c = refl
items_append_assoc (item x xs) b c = ap (item x) (items_append_assoc xs b c)

pub items_append_none : (a : Items) → items_append a no_items ≡ a
items_append_none no_items = refl
items_append_none (item x xs) = ap (item x) (items_append_none xs)

pub count-items_append : (a b : Items) → count (items_append a b) ≡ count a + count b
count-items_append no_items b = omega arith
count-items_append (item x xs) b = omega (arith, count-items_append xs b)

pub items_weight-items_append : (a b : Items) → items_weight (items_append a b) ≡ items_weight a + items_weight b
items_weight-items_append no_items b = omega arith
items_weight-items_append (item x xs) b = omega (arith, items_weight-items_append xs b)

pub items_depth-items_append : (a b : Items) → items_depth (items_append a b) ≡ max (items_depth a) (items_depth b)
items_depth-items_append no_items b = omega arith
items_depth-items_append (item x xs) b = omega (arith, items_depth-items_append xs b)

pub within_facts : (n w l : ℕ) → is_within n w l ≡ true → (n ≤ 65536) × ((w ≤ 33554432) × (l ≤ 64))
within_facts n w l h = (grind (arith, nat_tests), (grind (arith, nat_tests), grind (arith, nat_tests)))

pub within_from : (n w l : ℕ) → n ≤ 65536 → w ≤ 33554432 → l ≤ 64 → is_within n w l ≡ true
within_from n w l a b c = grind (arith, nat_tests)

-- the test of one more item, by the numbers that a list keeps
pub room_for_one : (ds : Items) (d : Data) → is_within (count ds + 1) (items_weight ds + weight d + 1) (max (items_depth ds) (depth d) + 1) ≡ items_fit (items_append ds (item d no_items))
room_for_one ds d =
    let n : count (items_append ds (item d no_items)) ≡ count ds + 1 = omega (arith, count-items_append ds (item d no_items)) in
    let w : items_weight (items_append ds (item d no_items)) ≡ items_weight ds + weight d = omega (arith, items_weight-items_append ds (item d no_items)) in
    let l : items_depth (items_append ds (item d no_items)) ≡ max (items_depth ds) (depth d) = omega (arith, items_depth-items_append ds (item d no_items)) in
    cc

pub room_for_all : (a b : Items) → is_within (count a + count b) (items_weight a + items_weight b + 1) (max (items_depth a) (items_depth b) + 1) ≡ items_fit (items_append a b)
room_for_all a b =
    let n = count-items_append a b in
    let w = items_weight-items_append a b in
    let l = items_depth-items_append a b in
    cc

-- what a list keeps of its items after one more
pub items_of-push : (vs new : List Value) (v : Value) (ds : Items) → new ≡ vs ++ v ∷ [] → items_of vs ≡ ds → items_of new ≡ items_append ds (item (data_of v) no_items)
items_of-push vs new v ds is view_is = ap items_of is ∙ items_of-append vs (v ∷ []) ∙ ap (λ x. items_append x (item (data_of v) no_items)) view_is

pub weight_pushed : (ds : Items) (d : Data) → items_weight (items_append ds (item d no_items)) ≡ items_weight ds + weight d
weight_pushed ds d = omega (arith, items_weight-items_append ds (item d no_items))

pub depth_pushed : (ds : Items) (d : Data) → items_depth (items_append ds (item d no_items)) ≡ max (items_depth ds) (depth d)
depth_pushed ds d = omega (arith, items_depth-items_append ds (item d no_items))

pub items_of-drop : (xs : List Value) (i : ℕ) (d : Value) → i < length xs → items_of (drop i xs) ≡ item (data_of (get_or xs i d)) (items_of (drop (i + 1) xs))
items_of-drop xs i d h = ap items_of (drop-cons xs i d h) ∙ rw add-one refl

-- what is there with one item more, and what is left then, are what was there and what was left
pub one_appended : (ds : Items) (xs : List Value) (x y : Value) (i : ℕ) → i < length xs → x ≡ get_or xs i x → data_of y ≡ data_of x
    → items_append (items_append ds (item (data_of y) no_items)) (items_of (drop (i + 1) xs)) ≡ items_append ds (items_of (drop i xs))
one_appended ds xs x y i h is same =
    items_append_assoc ds (item (data_of y) no_items) (items_of (drop (i + 1) xs))
    ∙ ap (λ d. items_append ds (item d (items_of (drop (i + 1) xs)))) (same ∙ ap data_of is)
    ∙ ap (items_append ds) (sym (items_of-drop xs i x h))

-- the front of a list within the limits is within them
pub front_fits : (a b : Items) → items_fit (items_append a b) ≡ true → items_fit a ≡ true
front_fits a b h =
    let f = within_facts (count (items_append a b)) (items_weight (items_append a b) + 1) (items_depth (items_append a b) + 1) h in
    within_from (count a) (items_weight a + 1) (items_depth a + 1) (omega (arith, f.0, count-items_append a b)) (omega (arith, f.1.0, items_weight-items_append a b)) (omega (arith, f.1.1, items_depth-items_append a b))

pub next_fits : (ds whole : Items) (xs : List Value) (x y : Value) (i : ℕ) → i < length xs → x ≡ get_or xs i x → data_of y ≡ data_of x
    → items_append ds (items_of (drop i xs)) ≡ whole → items_fit whole ≡ true → items_fit (items_append ds (item (data_of y) no_items)) ≡ true
next_fits ds whole xs x y i h is same e fit =
    front_fits (items_append ds (item (data_of y) no_items)) (items_of (drop (i + 1) xs)) (ap items_fit (one_appended ds xs x y i h is same ∙ e) ∙ fit)

-- an item weighs no more than all
pub weight-le-items_weight : (vs : List Value) (i : ℕ) (d : Value) → i < length vs → weight (data_of (get_or vs i d)) ≤ items_weight (items_of vs)
weight-le-items_weight [] i d h = absurd (omega arith)
weight-le-items_weight (v ∷ vs) zero d h = omega arith
weight-le-items_weight (v ∷ vs) (suc i) d h = omega (arith, weight-le-items_weight vs i d (omega arith))

pub length-same_items : (xs ys : List Value) → items_of xs ≡ items_of ys → length xs ≡ length ys
length-same_items xs ys e = sym (count-items_of xs) ∙ ap count e ∙ count-items_of ys

-- ---- a list from items, by the numbers that are counted

too_many : (n w l : ℕ) → 65536 < n → is_within n w l ≡ false
too_many n w l h = grind (arith, nat_tests)

pub refused_many : (ds : Items) → 65536 < count ds → Err refusal.Limit ≡ (if items_fit ds then Ok ds else Err refusal.Limit)
refused_many ds h = sym (ap (λ (b : Bool). if b then Ok ds else Err refusal.Limit) (too_many (count ds) (items_weight ds + 1) (items_depth ds + 1) h))

pub taken_where : (ds : Items) (n w l : ℕ) → n ≡ count ds → w ≡ items_weight ds → l ≡ items_depth ds → is_within n (w + 1) (l + 1) ≡ true
    → Ok ds ≡ (if items_fit ds then Ok ds else Err refusal.Limit)
taken_where ds n w l a b c fit =
    let fits : items_fit ds ≡ true = cc in
    sym (ap (λ (b : Bool). if b then Ok ds else Err refusal.Limit) fits)

-- ---- disablers among items

or_assoc : (a b c : Bool) → ((a || b) || c) ≡ (a || (b || c))
or_assoc true b c = refl
or_assoc false b c = refl

or_false : (a : Bool) → (a || false) ≡ a
or_false true = refl
or_false false = refl

pub disabler_pushed : (ds : Items) (d : Data) → have_disabler (items_append ds (item d no_items)) ≡ (have_disabler ds || has_disabler d)
disabler_pushed no_items d = or_false (has_disabler d)
disabler_pushed (item x xs) d =
    ap (λ b. has_disabler x || b) (disabler_pushed xs d) ∙ sym (or_assoc (has_disabler x) (have_disabler xs) (has_disabler d))
