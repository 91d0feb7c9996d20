-- Keys in the order of their bytes.
use Rattle.std.proofs.Common.{◌≡◌, List, [], ◌∷◌, map, refl, ap}
use Rattle.std.specs.Ordering.{match_ordering}
use Rattle.std.specs.declared.cmp.Ordering.{Ordering}
use Rattle.std.specs.declared.cmp.Ordering.TheVariants as ordering
use Rattle.std.specs.BTreeSet.{insert_key}

at_order : {K L : Type 0} (f : K → L) (o : Ordering) (k x : K) (xs r : List K) (r' : List L) → map f r ≡ r'
    → map f (match_ordering o (k ∷ x ∷ xs) (x ∷ xs) (x ∷ r)) ≡ match_ordering o (f k ∷ f x ∷ map f xs) (f x ∷ map f xs) (f x ∷ r')
at_order f ordering.Less k x xs r r' e = refl
at_order f ordering.Equal k x xs r r' e = refl
at_order f ordering.Greater k x xs r r' e = ap (λ t. f x ∷ t) e

-- what a key says is put at its place
pub map-insert_key : {K L : Type 0} (f : K → L) (cmp : L → L → Ordering) (ks : List K) (k : K)
    → map f (insert_key (λ a b. cmp (f a) (f b)) ks k) ≡ insert_key cmp (map f ks) (f k)
map-insert_key f cmp [] k = refl
map-insert_key f cmp (x ∷ xs) k =
    at_order f (cmp (f k) (f x)) k x xs (insert_key (λ a b. cmp (f a) (f b)) xs k) (insert_key cmp (map f xs) (f k))
    (map-insert_key f cmp xs k)
