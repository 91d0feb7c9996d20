-- What a dictionary keeps when a value is put into it.
use Rattle.std.proofs.Common.{◌≡◌, ℕ, zero, suc, ◌+◌, ◌<◌, ◌≤◌, Bool, true, false, List, [], ◌∷◌, length, get_or, set, Some, None}
use Rattle.std.proofs.Common.{bytes_eq, refl, sym, ap, ◌∙◌, subst, arith, Option}
use Rattle.std.specs.Prelude.{max, nat_le, nat_lt, option_map, option_and_then, IfSome, slice_get, if◌then◌else◌}
use Rattle.std.proofs.lemmas.Bool.{leb-true, leb-false, ltb-true}
use Rattle.values.specs.Builder.{replaced_depth}
use Rattle.std.specs.Cmp.Lexicographic.{bytes_decides}
use Rattle.values.specs.Data.{Data, count, Entries, no_entries, entry, entry_count, entry_values, keys_in, find, entries_with, merged_entries, AreDistinct}
use Rattle.values.specs.Limits.{is_within, entries_fit}
use Rattle.values.specs.Weight.{weight, depth, items_weight, items_depth, entries_weight, entries_depth}
use Rattle.values.specs.View.{data_of, items_of, entries_of}
use Rattle.values.specs.declared.value.Value.{Value}
use Rattle.values.proofs.ItemsLemmas.{weight-le-items_weight}

abbrev keys_weight : List (List ℕ) → ℕ
keys_weight [] = 0
keys_weight (k ∷ ks) = length k + 1 + keys_weight ks

entries_weight-entries_of : (ks : List (List ℕ)) (vs : List Value) → length ks ≡ length vs → entries_weight (entries_of ks vs) ≡ keys_weight ks + items_weight (items_of vs)
entries_weight-entries_of [] [] fit = omega arith
entries_weight-entries_of [] (v ∷ vs) fit = absurd (omega arith)
entries_weight-entries_of (k ∷ ks) [] fit = absurd (omega arith)
entries_weight-entries_of (k ∷ ks) (v ∷ vs) fit = omega (arith, entries_weight-entries_of ks vs (omega arith))

pub entries_depth-entries_of : (ks : List (List ℕ)) (vs : List Value) → length ks ≡ length vs → entries_depth (entries_of ks vs) ≡ items_depth (items_of vs)
entries_depth-entries_of [] [] fit = refl
entries_depth-entries_of [] (v ∷ vs) fit = absurd (omega arith)
entries_depth-entries_of (k ∷ ks) [] fit = absurd (omega arith)
entries_depth-entries_of (k ∷ ks) (v ∷ vs) fit = ap (max (depth (data_of v))) (entries_depth-entries_of ks vs (omega arith))

items_weight-set : (vs : List Value) (i : ℕ) (w d : Value) → i < length vs → items_weight (items_of (set vs i w)) + weight (data_of (get_or vs i d)) ≡ items_weight (items_of vs) + weight (data_of w)
items_weight-set [] i w d h = absurd (omega arith)
items_weight-set (v ∷ vs) zero w d h = omega arith
items_weight-set (v ∷ vs) (suc i) w d h = omega (arith, items_weight-set vs i w d (omega arith))

length-set-values : (vs : List Value) (i : ℕ) (w : Value) → length (set vs i w) ≡ length vs
length-set-values [] i w = refl
length-set-values (v ∷ vs) zero w = refl
length-set-values (v ∷ vs) (suc i) w = ap suc (length-set-values vs i w)

-- a value written over another changes the weight by theirs
pub weight_replaced : (ks : List (List ℕ)) (vs : List Value) (i : ℕ) (w d : Value) → length ks ≡ length vs → i < length vs
    → entries_weight (entries_of ks (set vs i w)) + weight (data_of (get_or vs i d)) ≡ entries_weight (entries_of ks vs) + weight (data_of w)
weight_replaced ks vs i w d fit h =
    omega (arith, entries_weight-entries_of ks vs fit, entries_weight-entries_of ks (set vs i w) (fit ∙ sym (length-set-values vs i w)), items_weight-set vs i w d h)

weight_put-new_at : (b : Bool) (k l : List ℕ) (d e : Data) (es : Entries) → (if b then Some e else find k es) ≡ None → (find k es ≡ None → entries_weight (entries_with k d es) ≡ entries_weight es + (length k + 1 + weight d))
    → entries_weight (if b then entry l d es else entry l e (entries_with k d es)) ≡ entries_weight (entry l e es) + (length k + 1 + weight d)
weight_put-new_at true k l d e es none later = absurd cc
weight_put-new_at false k l d e es none later = omega (arith, later none)

pub weight_put-new : (k : List ℕ) (d : Data) (es : Entries) → find k es ≡ None → entries_weight (entries_with k d es) ≡ entries_weight es + (length k + 1 + weight d)
weight_put-new k d no_entries none = omega arith
weight_put-new k d (entry l e es) none = weight_put-new_at (bytes_eq k l) k l d e es none (weight_put-new k d es)

depth_put-new_at : (b : Bool) (k l : List ℕ) (d e : Data) (es : Entries) → (if b then Some e else find k es) ≡ None → (find k es ≡ None → entries_depth (entries_with k d es) ≡ max (entries_depth es) (depth d))
    → entries_depth (if b then entry l d es else entry l e (entries_with k d es)) ≡ max (entries_depth (entry l e es)) (depth d)
depth_put-new_at true k l d e es none later = absurd cc
depth_put-new_at false k l d e es none later = omega (arith, later none)

pub depth_put-new : (k : List ℕ) (d : Data) (es : Entries) → find k es ≡ None → entries_depth (entries_with k d es) ≡ max (entries_depth es) (depth d)
depth_put-new k d no_entries none = omega arith
depth_put-new k d (entry l e es) none = depth_put-new_at (bytes_eq k l) k l d e es none (depth_put-new k d es)

-- a put never makes a value weigh more than all together
weight_put-le_at : (b : Bool) (k l : List ℕ) (d e : Data) (es : Entries) → entries_weight (entries_with k d es) ≤ entries_weight es + (length k + 1 + weight d)
    → entries_weight (if b then entry l d es else entry l e (entries_with k d es)) ≤ entries_weight (entry l e es) + (length k + 1 + weight d)
weight_put-le_at true k l d e es later = omega arith
weight_put-le_at false k l d e es later = omega (arith, later)

pub weight_put-le : (k : List ℕ) (d : Data) (es : Entries) → entries_weight (entries_with k d es) ≤ entries_weight es + (length k + 1 + weight d)
weight_put-le k d no_entries = omega arith
weight_put-le k d (entry l e es) = weight_put-le_at (bytes_eq k l) k l d e es (weight_put-le k d es)

-- ---- keys stay distinct

find_put-other_at : (b c : Bool) (k l m : List ℕ) (d e : Data) (es : Entries) → bytes_eq l k ≡ false → (bytes_eq k m ≡ b) → (bytes_eq l m ≡ c) → find l (entries_with k d es) ≡ find l es
    → find l (if b then entry m d es else entry m e (entries_with k d es)) ≡ find l (entry m e es)
find_put-other_at true true k l m d e es apart is is' later =
    let same : l ≡ k = (bytes_decides l m).0 is' ∙ sym ((bytes_decides k m).0 is) in
    let both : bytes_eq l k ≡ true = (bytes_decides l k).1 same in
    absurd cc
find_put-other_at true false k l m d e es apart is is' later = ap (λ z. if z then Some d else find l es) is' ∙ sym (ap (λ z. if z then Some e else find l es) is')
find_put-other_at false c k l m d e es apart is is' later = ap (λ z. if bytes_eq l m then Some e else z) later

find_put-other : (k l : List ℕ) (d : Data) (es : Entries) → bytes_eq l k ≡ false → find l (entries_with k d es) ≡ find l es
find_put-other k l d no_entries apart = ap (λ z. if z then Some d else None) apart
find_put-other k l d (entry m e es) apart = find_put-other_at (bytes_eq k m) (bytes_eq l m) k l m d e es apart refl refl (find_put-other k l d es apart)

false_is : (b : Bool) → (b ≡ true → ⊥) → b ≡ false
false_is true h = absurd (h refl)
false_is false h = refl

flip_false : (k l : List ℕ) → bytes_eq k l ≡ false → bytes_eq l k ≡ false
flip_false k l h = false_is (bytes_eq l k) (λ e. let same : bytes_eq k l ≡ true = (bytes_decides k l).1 (sym ((bytes_decides l k).0 e)) in absurd cc)

put-distinct_at : (b : Bool) (k l : List ℕ) (d e : Data) (es : Entries) → bytes_eq k l ≡ b → find l es ≡ None → AreDistinct es → AreDistinct (entries_with k d es)
    → AreDistinct (if b then entry l d es else entry l e (entries_with k d es))
put-distinct_at true k l d e es is none rest later = (none, rest)
put-distinct_at false k l d e es is none rest later = (find_put-other k l d es (flip_false k l is) ∙ none, later)

pub put-distinct : (k : List ℕ) (d : Data) (es : Entries) → AreDistinct es → AreDistinct (entries_with k d es)
put-distinct k d no_entries h = (refl, tt)
put-distinct k d (entry l e es) h = put-distinct_at (bytes_eq k l) k l d e es refl h.0 h.1 (put-distinct k d es h.1)

pub weight-le-entries_weight : (ks : List (List ℕ)) (vs : List Value) (i : ℕ) (d : Value) → length ks ≡ length vs → i < length vs → weight (data_of (get_or vs i d)) ≤ entries_weight (entries_of ks vs)
weight-le-entries_weight ks vs i d fit h = omega (arith, entries_weight-entries_of ks vs fit, weight-le-items_weight vs i d h)

pub length-set : (vs : List Value) (i : ℕ) (w : Value) → length (set vs i w) ≡ length vs
length-set = length-set-values

pub fit_by_numbers : (es : Entries) (n w l : ℕ) → n ≡ entry_count es → w ≡ entries_weight es → l ≡ entries_depth es → is_within n (w + 1) (l + 1) ≡ entries_fit es
fit_by_numbers es n w l a b c = cc

-- ---- entries from a place on

abbrev pub entries_from_place : ℕ → Entries → Entries
entries_from_place zero es = es
entries_from_place (suc i) no_entries = no_entries
entries_from_place (suc i) (entry k d es) = entries_from_place i es

some_same : (k l : List ℕ) → Some k ≡ Some l → k ≡ l
some_same k l e = cc

first_entry : (es : Entries) (vs : List Value) (i : ℕ) (k : List ℕ) (v : Value) → items_of vs ≡ entry_values es → i < length vs → slice_get (keys_in es) i ≡ Some k
    → entries_from_place i es ≡ entry k (data_of (get_or vs i v)) (entries_from_place (suc i) es)
first_entry no_entries [] i k v e h is = absurd (omega arith)
first_entry no_entries (w ∷ vs) i k v e h is = absurd cc
first_entry (entry l d es) [] i k v e h is = absurd (omega arith)
first_entry (entry l d es) (w ∷ vs) zero k v e h is =
    let key : l ≡ k = some_same l k is in
    let value : d ≡ data_of w = cc in
    cc
first_entry (entry l d es) (w ∷ vs) (suc i) k v e h is =
    let rest : items_of vs ≡ entry_values es = cc in
    first_entry es vs i k v rest (omega arith) is

-- the entry at a place, and those after it
pub next_entry : (es : Entries) (vs : List Value) (i : ℕ) (k : List ℕ) (x y : Value) → items_of vs ≡ entry_values es → i < length vs → slice_get (keys_in es) i ≡ Some k → x ≡ get_or vs i x → data_of y ≡ data_of x
    → entries_from_place i es ≡ entry k (data_of y) (entries_from_place (i + 1) es)
next_entry es vs i k x y e h is at same =
    let s : suc i ≡ i + 1 = omega arith in
    first_entry es vs i k x e h is ∙ ap (λ z. entry k (data_of z) (entries_from_place (suc i) es)) (sym at) ∙ ap (λ z. entry k z (entries_from_place (suc i) es)) (sym same) ∙ ap (λ j. entry k (data_of y) (entries_from_place j es)) s

pub no_entries_left : (es : Entries) (i : ℕ) → entry_count es ≤ i → entries_from_place i es ≡ no_entries
no_entries_left no_entries zero h = refl
no_entries_left no_entries (suc i) h = refl
no_entries_left (entry k d es) zero h = absurd (omega arith)
no_entries_left (entry k d es) (suc i) h = no_entries_left es i (omega arith)

pub count-entry_values : (es : Entries) → count (entry_values es) ≡ entry_count es
count-entry_values no_entries = refl
count-entry_values (entry k d es) = ap suc (count-entry_values es)

-- ---- a dictionary put into an empty one

abbrev entries_append : Entries → Entries → Entries
entries_append no_entries fs = fs
entries_append (entry k d es) fs = entry k d (entries_append es fs)

-- no key of the second stands in the first
abbrev AreApart : Entries → Entries → Type 0
AreApart es no_entries = Unit {0}
AreApart es (entry k d fs) = (find k es ≡ None) × AreApart es fs

append_no_entries : (es : Entries) → entries_append es no_entries ≡ es
append_no_entries no_entries = refl
append_no_entries (entry k d es) = ap (entry k d) (append_no_entries es)

entries_append_assoc : (a b c : Entries) → entries_append (entries_append a b) c ≡ entries_append a (entries_append b c)
entries_append_assoc no_entries b c = refl
entries_append_assoc (entry k d es) b c = ap (entry k d) (entries_append_assoc es b c)

put-absent_at : (b : Bool) (k l : List ℕ) (d e : Data) (es : Entries) → (if b then Some e else find k es) ≡ None → (find k es ≡ None → entries_with k d es ≡ entries_append es (entry k d no_entries))
    → (if b then entry l d es else entry l e (entries_with k d es)) ≡ entry l e (entries_append es (entry k d no_entries))
put-absent_at true k l d e es none later = absurd cc
put-absent_at false k l d e es none later = ap (entry l e) (later none)

put-absent : (k : List ℕ) (d : Data) (es : Entries) → find k es ≡ None → entries_with k d es ≡ entries_append es (entry k d no_entries)
put-absent k d no_entries none = refl
put-absent k d (entry l e es) none = put-absent_at (bytes_eq k l) k l d e es none (put-absent k d es)

other_key_at : (b : Bool) (e : Data) (r : Option Data) → (if b then Some e else r) ≡ None → (b ≡ false) × (r ≡ None)
other_key_at true e r h = absurd cc
other_key_at false e r h = (refl, h)

apart_put : (k : List ℕ) (d : Data) (es fs : Entries) → find k fs ≡ None → AreApart es fs → AreApart (entries_with k d es) fs
apart_put k d es no_entries none h = tt
apart_put k d es (entry l e fs) none h =
    let other = other_key_at (bytes_eq k l) e (find k fs) none in
    (find_put-other k l d es (flip_false k l other.0) ∙ h.0, apart_put k d es fs other.1 h.1)

merged_apart : (es fs : Entries) → AreDistinct fs → AreApart es fs → merged_entries es fs ≡ entries_append es fs
merged_apart es no_entries h apart = sym (append_no_entries es)
merged_apart es (entry k d fs) h apart =
    merged_apart (entries_with k d es) fs h.1 (apart_put k d es fs h.0 apart.1)
    ∙ ap (λ x. entries_append x fs) (put-absent k d es apart.0)
    ∙ entries_append_assoc es (entry k d no_entries) fs

apart_none : (fs : Entries) → AreApart no_entries fs
apart_none no_entries = tt
apart_none (entry k d fs) = (refl, apart_none fs)

pub merged_none : (es : Entries) → AreDistinct es → merged_entries no_entries es ≡ es
merged_none es h = merged_apart no_entries es h (apart_none es)

-- ---- the depth, where it is known

pub deeper_is : (o r : Option ℕ) (n m more : ℕ) → r ≡ option_map (λ d. max d more) o → IfSome o (λ d. d ≡ n) → m ≡ max n more → IfSome r (λ d. d ≡ m)
deeper_is None r n m more is known e = subst (λ x. IfSome x (λ d. d ≡ m)) (sym is) tt
deeper_is (Some k) r n m more is known e = subst (λ x. IfSome x (λ d. d ≡ m)) (sym is) (ap (λ x. max x more) known ∙ sym e)

pub deeper_small : (o r : Option ℕ) (more : ℕ) → r ≡ option_map (λ d. max d more) o → IfSome o (λ d. d ≤ 64) → more ≤ 64 → IfSome r (λ d. d ≤ 64)
deeper_small None r more is small h = subst (λ x. IfSome x (λ d. d ≤ 64)) (sym is) tt
deeper_small (Some k) r more is small h = subst (λ x. IfSome x (λ d. d ≤ 64)) (sym is) (omega arith)

-- ---- the depth with a value in place of another

-- the deepest with one in place of another: no less than it, and no more than all before and it; and what was the deepest
-- before is so still, or it was the one that has gone
record Replaced (before after old new : ℕ) : Type 0 where
  there : new ≤ after
  high : after ≤ max before new
  low : before ≤ max after old

items_depth-set : (vs : List Value) (i : ℕ) (w d : Value) → i < length vs
    → Replaced (items_depth (items_of vs)) (items_depth (items_of (set vs i w))) (depth (data_of (get_or vs i d))) (depth (data_of w))
items_depth-set [] i w d h = absurd (omega arith)
items_depth-set (v ∷ vs) zero w d h = record { there = omega arith; high = omega arith; low = omega arith }
items_depth-set (v ∷ vs) (suc i) w d h =
    let r = items_depth-set vs i w d (omega arith) in
    record { there = omega (arith, r.there); high = omega (arith, r.high); low = omega (arith, r.low) }

known_replaced : (b c : Bool) (before after old new : ℕ) (r : Option ℕ) → Replaced before after old new → nat_le old new ≡ b → nat_lt old before ≡ c
    → r ≡ (if b then Some (max before new) else if c then Some before else None) → IfSome r (λ d. d ≡ after)
known_replaced true c before after old new r set b_is c_is is =
    let le : old ≤ new = leb-true old new b_is in
    subst (λ x. IfSome x (λ d. d ≡ after)) (sym is) (omega (arith, set.there, set.high, set.low))
known_replaced false true before after old new r set b_is c_is is =
    let gt : new < old = leb-false old new b_is in
    let lt : old < before = ltb-true old before c_is in
    subst (λ x. IfSome x (λ d. d ≡ after)) (sym is) (omega (arith, set.there, set.high, set.low))
known_replaced false false before after old new r set b_is c_is is = subst (λ x. IfSome x (λ d. d ≡ after)) (sym is) tt

replaced_from : (o r : Option ℕ) (before after old new : ℕ) → Replaced before after old new → r ≡ option_and_then (replaced_depth old new) o
    → IfSome o (λ d. d ≡ before) → IfSome r (λ d. d ≡ after)
replaced_from None r before after old new set is known = subst (λ x. IfSome x (λ d. d ≡ after)) (sym is) tt
replaced_from (Some k) r before after old new set is known =
    known_replaced (nat_le old new) (nat_lt old before) before after old new r set refl refl (is ∙ ap (replaced_depth old new) known)

pub replaced_is : (o r : Option ℕ) (ks : List (List ℕ)) (vs : List Value) (i : ℕ) (w d : Value) (old new : ℕ) → length ks ≡ length vs → i < length vs
    → old ≡ depth (data_of (get_or vs i d)) → new ≡ depth (data_of w) → r ≡ option_and_then (replaced_depth old new) o
    → IfSome o (λ n. n ≡ entries_depth (entries_of ks vs)) → IfSome r (λ n. n ≡ entries_depth (entries_of ks (set vs i w)))
replaced_is o r ks vs i w d old new fit h old_is new_is is known =
    let before = entries_depth-entries_of ks vs fit in
    let after = entries_depth-entries_of ks (set vs i w) (fit ∙ sym (length-set-values vs i w)) in
    subst (λ n. IfSome r (λ m. m ≡ n)) (sym after)
    (replaced_from o r (items_depth (items_of vs)) (items_depth (items_of (set vs i w))) old new
    (subst (λ n. Replaced (items_depth (items_of vs)) (items_depth (items_of (set vs i w))) old n) (sym new_is)
    (subst (λ m. Replaced (items_depth (items_of vs)) (items_depth (items_of (set vs i w))) m (depth (data_of w))) (sym old_is)
    (items_depth-set vs i w d h)))
    is (subst (λ n. IfSome o (λ m. m ≡ n)) before known))

small_replaced : (b c : Bool) (before new : ℕ) (r : Option ℕ) → before ≤ 64 → new ≤ 64
    → r ≡ (if b then Some (max before new) else if c then Some before else None) → IfSome r (λ d. d ≤ 64)
small_replaced true c before new r h k is = subst (λ x. IfSome x (λ d. d ≤ 64)) (sym is) (omega arith)
small_replaced false true before new r h k is = subst (λ x. IfSome x (λ d. d ≤ 64)) (sym is) h
small_replaced false false before new r h k is = subst (λ x. IfSome x (λ d. d ≤ 64)) (sym is) tt

pub replaced_small : (o r : Option ℕ) (old new : ℕ) → r ≡ option_and_then (replaced_depth old new) o → IfSome o (λ d. d ≤ 64) → new ≤ 64
    → IfSome r (λ d. d ≤ 64)
replaced_small None r old new is small h = subst (λ x. IfSome x (λ d. d ≤ 64)) (sym is) tt
replaced_small (Some k) r old new is small h = small_replaced (nat_le old new) (nat_lt old k) k new r small h is
