-- What the tests of `specs/texts/Search.antt` tell.
use Rattle.std.proofs.Common.{◌≡◌, ℕ, List, [], ◌∷◌, ◌++◌, length, take, drop, nat_eq, Decides, refl, sym, ap, ◌∙◌, inl, inr, ◌⊎◌}
use Rattle.std.specs.List.{starts_with}
use Rattle.std.specs.Str.Iter.{HasSubslice}
use Rattle.std.specs.Cmp.Lexicographic.{bytes_decides}
use Rattle.std.proofs.lemmas.List.{take_at, take-append-drop}
use Rattle.std.proofs.lemmas.Bool.Decides.{Decides-like, Decides-or}
use Rattle.values.specs.texts.Search.{contains}

-- a text begins with a part where it is that part and something more
pub Decides-starts_with : (text part : List ℕ) → Decides (starts_with nat_eq text part) ((rest : List ℕ) × (text ≡ part ++ rest))
Decides-starts_with text part =
    Decides-like (starts_with nat_eq text part)
    (λ e. (drop (length part) text, sym (take-append-drop (length part) text) ∙ ap (λ front. front ++ drop (length part) text) (sym e)))
    (λ w. sym (ap (take (length part)) w.1 ∙ take_at part w.0 (length part) refl))
    (bytes_decides part (take (length part) text))

nowhere_else : (part a b : List ℕ) → [] ≡ a ++ (part ++ b) → (rest : List ℕ) × ([] ≡ part ++ rest)
nowhere_else part [] b e = (b, e)
nowhere_else part (x ∷ xs) b e = cc

here_or_later : (x : ℕ) (xs part a b : List ℕ) → x ∷ xs ≡ a ++ (part ++ b)
    → ((rest : List ℕ) × (x ∷ xs ≡ part ++ rest)) ⊎ HasSubslice xs part
here_or_later x xs part [] b e = inl (b, e)
here_or_later x xs part (y ∷ ys) b e =
    let tails : xs ≡ ys ++ (part ++ b) = cc in
    inr (ys, b, tails)

from_either : (x : ℕ) (xs part : List ℕ) → ((rest : List ℕ) × (x ∷ xs ≡ part ++ rest)) ⊎ HasSubslice xs part → HasSubslice (x ∷ xs) part
from_either x xs part (inl w) = ([], w.0, w.1)
from_either x xs part (inr w) = (x ∷ w.0, w.1, ap (λ ys. x ∷ ys) w.2)

pub Decides-contains : (text part : List ℕ) → Decides (contains text part) (HasSubslice text part)
Decides-contains [] part =
    Decides-like (contains [] part) (λ w. ([], w.0, w.1)) (λ w. nowhere_else part w.0 w.1 w.2) (Decides-starts_with [] part)
Decides-contains (x ∷ xs) part =
    Decides-like (contains (x ∷ xs) part) (from_either x xs part) (λ w. here_or_later x xs part w.0 w.1 w.2)
    (Decides-or (starts_with nat_eq (x ∷ xs) part) (contains xs part) (Decides-starts_with (x ∷ xs) part) (Decides-contains xs part))
