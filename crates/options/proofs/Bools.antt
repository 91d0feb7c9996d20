-- Tests of all items of a list.
use Rattle.std.proofs.Common.{◌≡◌, Bool, true, false, List, [], ◌∷◌, ◌++◌, map, refl}
use Rattle.std.specs.Prelude.{◌&&◌}
use Rattle.std.specs.List.{list_all, flat_map}

pub both : (a b : Bool) → a ≡ true → b ≡ true → (a && b) ≡ true
both true b e f = f
both false b e f = absurd cc

pub first : (a b : Bool) → (a && b) ≡ true → a ≡ true
first true b e = refl
first false b e = absurd cc

pub second : (a b : Bool) → (a && b) ≡ true → b ≡ true
second true b e = e
second false b e = absurd cc

pub all_append : {A : Type 0} (p : A → Bool) (xs ys : List A) → list_all p xs ≡ true → list_all p ys ≡ true → list_all p (xs ++ ys) ≡ true
all_append p [] ys e f = f
all_append p (x ∷ xs) ys e f =
    both (p x) (list_all p (xs ++ ys)) (first (p x) (list_all p xs) e) (all_append p xs ys (second (p x) (list_all p xs) e) f)

pub all_map : {A B : Type 0} (p : B → Bool) (f : A → B) (xs : List A) → ((x : A) → p (f x) ≡ true) → list_all p (map f xs) ≡ true
all_map p f [] h = refl
all_map p f (x ∷ xs) h = both (p (f x)) (list_all p (map f xs)) (h x) (all_map p f xs h)

pub all_flat_map : {A B : Type 0} (p : B → Bool) (f : A → List B) (xs : List A) → ((x : A) → list_all p (f x) ≡ true)
    → list_all p (flat_map f xs) ≡ true
all_flat_map p f [] h = refl
all_flat_map p f (x ∷ xs) h = all_append p (f x) (flat_map f xs) (h x) (all_flat_map p f xs h)
