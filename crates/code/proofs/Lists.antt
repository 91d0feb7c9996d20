-- Tests of all items of a list.
use Rattle.std.proofs.Common.{◌≡◌, Bool, List, [], ◌∷◌, map, IsTrue, refl, ap, ◌∙◌}
use Rattle.std.specs.List.{list_all}
use Rattle.code.proofs.Trees.{both_true, and_both}

module _ {X : Type 0} (p : X → Bool) where
  pub all_imply : (q : X → Bool) → ((x : X) → IsTrue (p x) → IsTrue (q x)) → (xs : List X) → IsTrue (list_all p xs) → IsTrue (list_all q xs)
  all_imply q step [] h = h
  all_imply q step (x ∷ xs) h = let b = both_true (p x) (list_all p xs) h in and_both (q x) (list_all q xs) (step x b.0)
      (all_imply q step xs b.1)

  pub map_alike : {Y : Type 0} (f g : X → Y) → ((x : X) → IsTrue (p x) → f x ≡ g x) → (xs : List X) → IsTrue (list_all p xs)
      → map f xs ≡ map g xs
  map_alike f g step [] h = refl
  map_alike f g step (x ∷ xs) h = let b = both_true (p x) (list_all p xs) h in ap (λ y. y ∷ map f xs) (step x b.0)
      ∙ ap (λ l. g x ∷ l) (map_alike f g step xs b.1)
