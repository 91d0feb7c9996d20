-- The names of configuration data that is made of a dictionary ascend, and are its keys.
use Rattle.std.proofs.Common.{◌≡◌, ℕ, Bool, true, false, List, [], ◌∷◌, Result, Ok, Err, refl, sym, ap, ◌∙◌, subst, bytes_eq}
use Rattle.std.specs.Prelude.{◌||◌}
use Rattle.std.specs.Ordering.{nat_cmp, match_ordering, ordering_reverse, is_eq}
use Rattle.std.specs.declared.cmp.Ordering.{Ordering}
use Rattle.std.specs.declared.cmp.Ordering.TheVariants as ordering
use Rattle.std.specs.Cmp.Lexicographic.{slice_cmp}
use Rattle.std.specs.List.{AllByRecursion}
use Rattle.std.specs.BTreeSet.{insert_key}
use Rattle.std.specs.BTreeMap.{insert_entry}
use Rattle.std.proofs.lemmas.Cmp.{nat_list_cmp_total}
use Rattle.std.proofs.lemmas.Map.Text.{is_eq-slice_cmp}
use Rattle.std.proofs.lemmas.Slice.Eq.{bytes_eq-Decides}
use Rattle.values.specs.Data.{Entries as DictionaryEntries, no_entries, entry, keys_in, entry_values}
use Rattle.template.specs.Config.{Content, Entries, names, with_value}
use Rattle.arguments.specs.Said.{Said, ◌>>=◌}
use Rattle.configuration_calls.specs.Contents.{content_at, all_set}
use Rattle.support.specs.Among.{is_among}
use Rattle.configuration_calls.specs.NameOrder.{Ascend, NamesAscend}

abbrev cmp : List ℕ → List ℕ → Ordering
cmp = slice_cmp nat_cmp

abbrev Above : List ℕ → List (List ℕ) → Type 0
Above t ts = AllByRecursion (λ y. cmp t y ≡ ordering.Less) ts

-- what is above a text is above one below that
above_below : (k x : List ℕ) → cmp k x ≡ ordering.Less → (xs : List (List ℕ)) → Above x xs → Above k xs
above_below k x e [] a = tt
above_below k x e (y ∷ ys) a = (nat_list_cmp_total.trans k x y e a.0, above_below k x e ys a.1)

above_inserted : (x k : List ℕ) (xs : List (List ℕ)) → cmp x k ≡ ordering.Less → Above x xs → Above x (insert_key cmp xs k)
above_inserted x k [] e a = (e, tt)
above_inserted x k (y ∷ ys) e a = by (cmp k y) (above_inserted x k ys e a.1)
  where
    by : (o : Ordering) → Above x (insert_key cmp ys k) → Above x (match_ordering o (k ∷ y ∷ ys) (y ∷ ys) (y ∷ insert_key cmp ys k))
    by ordering.Less h = (e, a)
    by ordering.Equal h = a
    by ordering.Greater h = (a.0, h)

ascend_inserted : (xs : List (List ℕ)) (k : List ℕ) → Ascend xs → Ascend (insert_key cmp xs k)
ascend_inserted [] k a = (tt, tt)
ascend_inserted (x ∷ xs) k a = by (cmp k x) refl (ascend_inserted xs k a.1)
  where
    by : (o : Ordering) → cmp k x ≡ o → Ascend (insert_key cmp xs k) → Ascend (match_ordering o (k ∷ x ∷ xs) (x ∷ xs) (x ∷ insert_key cmp xs k))
    by ordering.Less e h = ((e, above_below k x e xs a.0), a)
    by ordering.Equal e h = a
    by ordering.Greater e h = (above_inserted x k xs (nat_list_cmp_total.antisymm x k ∙ ap ordering_reverse e) a.0, h)

or_swapped : (a b c : Bool) → (a || (b || c)) ≡ (b || (a || c))
or_swapped true true c = refl
or_swapped true false c = refl
or_swapped false true c = refl
or_swapped false false c = refl

or_twice : (a c : Bool) → (a || c) ≡ (a || (a || c))
or_twice true c = refl
or_twice false c = refl

among_inserted : (q : List ℕ) (xs : List (List ℕ)) (k : List ℕ) → is_among (insert_key cmp xs k) q ≡ (bytes_eq q k || is_among xs q)
among_inserted q [] k = refl
among_inserted q (x ∷ xs) k = by (cmp k x) refl (among_inserted q xs k)
  where
    by : (o : Ordering) → cmp k x ≡ o → is_among (insert_key cmp xs k) q ≡ (bytes_eq q k || is_among xs q)
        → is_among (match_ordering o (k ∷ x ∷ xs) (x ∷ xs) (x ∷ insert_key cmp xs k)) q ≡ (bytes_eq q k || (bytes_eq q x || is_among xs q))
    by ordering.Less e h = refl
    by ordering.Equal e h =
        let same : k ≡ x = (bytes_eq-Decides k x).0 (sym (is_eq-slice_cmp k x) ∙ ap is_eq e) in
        or_twice (bytes_eq q x) (is_among xs q) ∙ ap (λ z. bytes_eq q z || (bytes_eq q x || is_among xs q)) (sym same)
    by ordering.Greater e h = ap (λ b. bytes_eq q x || b) h ∙ or_swapped (bytes_eq q x) (bytes_eq q k) (is_among xs q)

or_moved : (a b c : Bool) → ((a || b) || c) ≡ (b || (a || c))
or_moved true true c = refl
or_moved true false c = refl
or_moved false true c = refl
or_moved false false c = refl

or_none : (a : Bool) → a ≡ (a || false)
or_none true = refl
or_none false = refl

-- ---- a value that is set

names_inserted : (entries : Entries) (k : List ℕ) (v : Content) → names (insert_entry cmp entries k v) ≡ insert_key cmp (names entries) k
names_inserted [] k v = refl
names_inserted (e ∷ es) k v = by (cmp k e.0) (names_inserted es k v)
  where
    by : (o : Ordering) → names (insert_entry cmp es k v) ≡ insert_key cmp (names es) k
        → names (match_ordering o ((k, v) ∷ e ∷ es) ((e.0, v) ∷ es) (e ∷ insert_entry cmp es k v))
        ≡ match_ordering o (k ∷ e.0 ∷ names es) (e.0 ∷ names es) (e.0 ∷ insert_key cmp (names es) k)
    by ordering.Less h = refl
    by ordering.Equal h = refl
    by ordering.Greater h = ap (λ ns. e.0 ∷ ns) h

names_with : (entries : Entries) (k : List ℕ) (v : Content) → names (with_value entries k v) ≡ insert_key cmp (names entries) k
unfolding with_value
names_with entries k v = names_inserted entries k v

-- ---- all of a dictionary

abbrev Kept : (before keys : List (List ℕ)) (result : Entries) → Type 0
Kept before keys result = Ascend (names result) × ((q : List ℕ) → is_among (names result) q ≡ (is_among before q || is_among keys q))

refused_not : {X E : Type 0} (refused : E) (r : X) → ◌≡◌ {A = Result X E} (Err refused) (Ok r) → {P : Type 0} → P
refused_not refused r e = absurd cc

same_said : {X E : Type 0} (a b : X) → ◌≡◌ {A = Result X E} (Ok a) (Ok b) → a ≡ b
same_said a b e = cc

all_kept : (entries : Entries) (es : DictionaryEntries) (r : Entries) → Ascend (names entries) → all_set entries (keys_in es) (entry_values es) ≡ Ok r
    → Kept (names entries) (keys_in es) r
all_kept entries no_entries r a e =
    subst (λ x. Kept (names entries) [] x) (same_said entries r e) (a, λ q. or_none (is_among (names entries) q))
all_kept entries (entry k d es) r a e =
    by (content_at k d) e
    (λ content. all_kept (with_value entries k content) es r (subst Ascend (sym (names_with entries k content)) (ascend_inserted (names entries) k a)))
  where
    by : (c : Said Content) → (c >>= (λ content. all_set (with_value entries k content) (keys_in es) (entry_values es))) ≡ Ok r
        → ((content : Content) → all_set (with_value entries k content) (keys_in es) (entry_values es) ≡ Ok r → Kept (names (with_value entries k content)) (keys_in es) r)
        → Kept (names entries) (k ∷ keys_in es) r
    by (Err refused) f next = refused_not refused r f
    by (Ok content) f next =
        let h = next content f in (
          h.0,
          λ q.
              h.1 q
              ∙ ap (λ ns. is_among ns q || is_among (keys_in es) q) (names_with entries k content)
              ∙ ap (λ b. b || is_among (keys_in es) q) (among_inserted q (names entries) k)
              ∙ or_moved (bytes_eq q k) (is_among (names entries) q) (is_among (keys_in es) q),
        )

pub names_do : NamesAscend
names_do es entries e = all_kept [] es entries tt e
