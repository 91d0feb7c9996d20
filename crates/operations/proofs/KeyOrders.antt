-- Keys that are put in order ascend, and are the same keys.
use Rattle.std.proofs.Common.{◌≡◌, ℕ, Bool, true, false, List, [], ◌∷◌, refl, sym, ap, ◌∙◌, bytes_eq}
use Rattle.std.specs.Prelude.{◌||◌}
use Rattle.std.specs.Ordering.{nat_cmp, match_ordering, ordering_reverse}
use Rattle.std.specs.declared.cmp.Ordering.{Ordering}
use Rattle.std.specs.declared.cmp.Ordering.TheVariants as ordering
use Rattle.std.specs.Ordering.{is_eq}
use Rattle.std.specs.Cmp.Lexicographic.{slice_cmp}
use Rattle.std.specs.List.{AllByRecursion}
use Rattle.std.specs.BTreeSet.{insert_key}
use Rattle.std.proofs.lemmas.Cmp.{nat_list_cmp_total}
use Rattle.std.proofs.lemmas.Map.Text.{is_eq-slice_cmp}
use Rattle.std.proofs.lemmas.Slice.Eq.{bytes_eq-Decides}
use Rattle.operations.specs.methods.Dictionaries.{sorted_with}
use Rattle.operations.specs.methods.KeyOrder.{Ascend, is_among, KeysAscend}

abbrev cmp : List ℕ → List ℕ → Ordering
cmp = slice_cmp nat_cmp

abbrev Above : List ℕ → List (List ℕ) → Type 0
Above t ts = AllByRecursion (λ y. cmp t y ≡ ordering.Less) ts

-- what is above a text is above one below that
above_below : (k x : List ℕ) → cmp k x ≡ ordering.Less → (xs : List (List ℕ)) → Above x xs → Above k xs
above_below k x e [] a = tt
above_below k x e (y ∷ ys) a = (nat_list_cmp_total.trans k x y e a.0, above_below k x e ys a.1)

above_inserted : (x k : List ℕ) (xs : List (List ℕ)) → cmp x k ≡ ordering.Less → Above x xs → Above x (insert_key cmp xs k)
above_inserted x k [] e a = (e, tt)
above_inserted x k (y ∷ ys) e a = by (cmp k y) (above_inserted x k ys e a.1)
  where
    by : (o : Ordering) → Above x (insert_key cmp ys k) → Above x (match_ordering o (k ∷ y ∷ ys) (y ∷ ys) (y ∷ insert_key cmp ys k))
    by ordering.Less h = (e, a)
    by ordering.Equal h = a
    by ordering.Greater h = (a.0, h)

ascend_inserted : (xs : List (List ℕ)) (k : List ℕ) → Ascend xs → Ascend (insert_key cmp xs k)
ascend_inserted [] k a = (tt, tt)
ascend_inserted (x ∷ xs) k a = by (cmp k x) refl (ascend_inserted xs k a.1)
  where
    by : (o : Ordering) → cmp k x ≡ o → Ascend (insert_key cmp xs k) → Ascend (match_ordering o (k ∷ x ∷ xs) (x ∷ xs) (x ∷ insert_key cmp xs k))
    by ordering.Less e h = ((e, above_below k x e xs a.0), a)
    by ordering.Equal e h = a
    by ordering.Greater e h = (above_inserted x k xs (nat_list_cmp_total.antisymm x k ∙ ap ordering_reverse e) a.0, h)

or_swapped : (a b c : Bool) → (a || (b || c)) ≡ (b || (a || c))
or_swapped true true c = refl
or_swapped true false c = refl
or_swapped false true c = refl
or_swapped false false c = refl

or_twice : (a c : Bool) → (a || c) ≡ (a || (a || c))
or_twice true c = refl
or_twice false c = refl

among_inserted : (q : List ℕ) (xs : List (List ℕ)) (k : List ℕ) → is_among q (insert_key cmp xs k) ≡ (bytes_eq q k || is_among q xs)
among_inserted q [] k = refl
among_inserted q (x ∷ xs) k = by (cmp k x) refl (among_inserted q xs k)
  where
    by : (o : Ordering) → cmp k x ≡ o → is_among q (insert_key cmp xs k) ≡ (bytes_eq q k || is_among q xs)
        → is_among q (match_ordering o (k ∷ x ∷ xs) (x ∷ xs) (x ∷ insert_key cmp xs k)) ≡ (bytes_eq q k || (bytes_eq q x || is_among q xs))
    by ordering.Less e h = refl
    by ordering.Equal e h =
        let same : k ≡ x = (bytes_eq-Decides k x).0 (sym (is_eq-slice_cmp k x) ∙ ap is_eq e) in
        or_twice (bytes_eq q x) (is_among q xs) ∙ ap (λ z. bytes_eq q z || (bytes_eq q x || is_among q xs)) (sym same)
    by ordering.Greater e h = ap (λ b. bytes_eq q x || b) h ∙ or_swapped (bytes_eq q x) (bytes_eq q k) (is_among q xs)

ascend_with : (sorted ks : List (List ℕ)) → Ascend sorted → Ascend (sorted_with sorted ks)
ascend_with sorted [] a = a
ascend_with sorted (k ∷ ks) a = ascend_with (insert_key cmp sorted k) ks (ascend_inserted sorted k a)

or_moved : (a b c : Bool) → ((a || b) || c) ≡ (b || (a || c))
or_moved true true c = refl
or_moved true false c = refl
or_moved false true c = refl
or_moved false false c = refl

among_with : (q : List ℕ) (sorted ks : List (List ℕ)) → is_among q (sorted_with sorted ks) ≡ (is_among q sorted || is_among q ks)
among_with q sorted [] = or_none (is_among q sorted)
  where
    or_none : (a : Bool) → a ≡ (a || false)
    or_none true = refl
    or_none false = refl
among_with q sorted (k ∷ ks) =
    among_with q (insert_key cmp sorted k) ks
    ∙ ap (λ b. b || is_among q ks) (among_inserted q sorted k)
    ∙ or_moved (bytes_eq q k) (is_among q sorted) (is_among q ks)

pub keys_do : KeysAscend
keys_do ks = (ascend_with [] ks tt, λ q. among_with q [] ks)
