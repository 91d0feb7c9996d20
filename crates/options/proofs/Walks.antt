-- A list that is walked: what is left is the next item and what is left then.
use Rattle.std.proofs.Common.{◌≡◌, ℕ, ◌+◌, ◌<◌, ◌≤◌, List, [], ◌∷◌, map, length, drop, get_or, add-one, drop-cons, drop_of_length-le, refl}
use Rattle.std.proofs.Common.{sym, ap, ◌∙◌}

pub next_is : {X Y : Type 0} (h : X → Y) (xs : List X) (i : ℕ) (x : X) → i < length xs → x ≡ get_or xs i x
    → map h (drop i xs) ≡ h x ∷ map h (drop (i + 1) xs)
next_is {X} h xs i x lt is =
    (rw (add-one, drop-cons xs i x lt) refl) ∙ ap (λ (y : X). h y ∷ map h (drop (i + 1) xs)) (sym is)

pub none_is : {X Y : Type 0} (h : X → Y) (xs : List X) (i : ℕ) → length xs ≤ i → map h (drop i xs) ≡ []
none_is h xs i le = ap (map h) (drop_of_length-le xs le)
