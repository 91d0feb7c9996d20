-- A value that is one of two.
use Rattle.std.proofs.Common.{◌≡◌, ◌⊎◌, inl, inr, ap, ◌∙◌}
use Rattle.world.specs.Deed.{Deed}

-- deeds by a value that are the same for both
pub either_way : {A B : Type 0} (f : A → Deed B) (d : Deed B) {x y z : A} → f y ≡ d → f z ≡ d → (x ≡ y) ⊎ (x ≡ z) → f x ≡ d
either_way f d p q (inl e) = ap f e ∙ p
either_way f d p q (inr e) = ap f e ∙ q
