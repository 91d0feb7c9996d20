-- Ways up.
use Rattle.std.proofs.Common.{◌≡◌, ℕ, zero, suc, ◌+◌, List, ◌++◌, codes, refl, sym, ap, ◌∙◌, append_assoc, add-one}
use Rattle.build.specs.target_edges.Ways.{steps_up}

-- one step more, at the other end
steps_up-suc : (n : ℕ) → steps_up n ++ codes "/.." ≡ steps_up (suc n)
steps_up-suc zero = refl
steps_up-suc (suc n) = ap (λ p. codes "/.." ++ p) (steps_up-suc n)

pub steps_up-more : (front now path : List ℕ) (n : ℕ) → now ≡ front ++ steps_up n → path ≡ now ++ codes "/.." → path ≡ front ++ steps_up (n + 1)
steps_up-more front now path n e f =
    f ∙ ap (λ p. p ++ codes "/..") e ∙ append_assoc front (steps_up n) (codes "/..") ∙ ap (λ p. front ++ p) (steps_up-suc n ∙ ap steps_up (sym (add-one n)))
