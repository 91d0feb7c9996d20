-- Names that are borrowed.
use Rattle.std.proofs.Common.{◌≡◌, ℕ, Bor, List, [], ◌∷◌, map, bytes_eq, refl, ap}
use Rattle.std.specs.Prelude.{◌||◌}
use Rattle.std.specs.List.{list_any}
use Rattle.support.specs.Among.{is_among}

pub any_name : (text : List ℕ) (names : List (Bor (List ℕ)))
    → list_any (λ (name : Bor (List ℕ)). bytes_eq text name.now) names ≡ is_among (map (λ (name : Bor (List ℕ)). name.now) names) text
any_name text [] = refl
any_name text (name ∷ names) = ap (λ b. bytes_eq text name.now || b) (any_name text names)
