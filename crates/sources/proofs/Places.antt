-- Two parts of a text, by the number of the first.
use Rattle.std.proofs.Common.{◌≡◌, ℕ, ◌+◌, ◌<◌, List, ◌∷◌, length, map, drop, get_or, Bor, refl, sym, ap, ◌∙◌, add-one, drop-cons, arith}
use Rattle.build.specs.edge.Texts.{Text}

abbrev pub now_of : List (Bor (List ℕ)) → List Text
now_of xs = map (λ s. s.now) xs

drop_at : (xs : List (Bor (List ℕ))) (i : ℕ) (d : Bor (List ℕ)) → i < length xs → drop i xs ≡ get_or xs i d ∷ drop (i + 1) xs
drop_at xs i d h = rw (add-one, drop-cons xs i d h) refl

pub one_at : (xs : List (Bor (List ℕ))) (i j : ℕ) (d : Bor (List ℕ)) → i < length xs → j ≡ i + 1 → now_of (drop i xs) ≡ (get_or xs i d).now ∷ now_of (drop j xs)
one_at xs i j d h e = ap now_of (drop_at xs i d h) ∙ ap (λ n. (get_or xs i d).now ∷ now_of (drop n xs)) (sym e)

pub two_at : (xs : List (Bor (List ℕ))) (i : ℕ) (d : Bor (List ℕ)) → i + 1 < length xs → now_of (drop i xs) ≡ (get_or xs i d).now ∷ (get_or xs (i + 1) d).now ∷ now_of (drop (i + 2) xs)
two_at xs i d h =
    one_at xs i (i + 1) d (omega arith) refl
    ∙ ap (λ l. (get_or xs i d).now ∷ l) (one_at xs (i + 1) (i + 2) d h (omega arith))
