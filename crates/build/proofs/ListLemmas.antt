-- Lists of lists, and tests over mapped lists.
use Rattle.std.proofs.Common.{◌≡◌, Bool, List, [], ◌∷◌, ◌++◌, map, refl, ap, ◌∙◌}
use Rattle.std.specs.Prelude.{◌||◌, flat_map}
use Rattle.std.specs.List.{list_any}
use Rattle.std.proofs.lemmas.List.{map-append}
use Rattle.std.proofs.lemmas.List.Concat.{flat_map-append}

pub list_any-map : {X Y : Type 0} (p : Y → Bool) (f : X → Y) (xs : List X) → list_any p (map f xs) ≡ list_any (λ x. p (f x)) xs
list_any-map p f [] = refl
list_any-map p f (x ∷ xs) = ap (λ b. p (f x) || b) (list_any-map p f xs)

pub flat_map-map : {X Y Z : Type 0} (f : Y → List Z) (g : X → Y) (xs : List X) → flat_map f (map g xs) ≡ flat_map (λ x. f (g x)) xs
flat_map-map f g [] = refl
flat_map-map f g (x ∷ xs) = ap (λ l. f (g x) ++ l) (flat_map-map f g xs)

pub flat_map-flat_map : {X Y Z : Type 0} (f : Y → List Z) (g : X → List Y) (xs : List X) → flat_map f (flat_map g xs) ≡ flat_map (λ x. flat_map f (g x)) xs
flat_map-flat_map f g [] = refl
flat_map-flat_map f g (x ∷ xs) = flat_map-append f (g x) (flat_map g xs) ∙ ap (λ l. flat_map f (g x) ++ l) (flat_map-flat_map f g xs)

-- a list of one's own and what others bring, each taken apart
pub flat_map-both : {X Y Z W : Type 0} (f : Y → List Z) (own : List Y) (g : X → List Y) (v : W → X) (ws : List W)
    → flat_map f (own ++ flat_map g (map v ws)) ≡ flat_map f own ++ flat_map (λ w. flat_map f (g (v w))) ws
flat_map-both f own g v ws =
    flat_map-append f own (flat_map g (map v ws))
    ∙ ap (λ l. flat_map f own ++ l) (flat_map-flat_map f g (map v ws) ∙ flat_map-map (λ x. flat_map f (g x)) v ws)

map-flat_map : {X Y Z : Type 0} (f : Y → Z) (g : X → List Y) (xs : List X) → map f (flat_map g xs) ≡ flat_map (λ x. map f (g x)) xs
map-flat_map f g [] = refl
map-flat_map f g (x ∷ xs) = map-append f (g x) (flat_map g xs) ∙ ap (λ l. map f (g x) ++ l) (map-flat_map f g xs)

-- the same, item by item
pub map-both : {X Y Z W : Type 0} (f : Y → Z) (own : List Y) (g : X → List Y) (v : W → X) (ws : List W)
    → map f (own ++ flat_map g (map v ws)) ≡ map f own ++ flat_map (λ w. map f (g (v w))) ws
map-both f own g v ws =
    map-append f own (flat_map g (map v ws))
    ∙ ap (λ l. map f own ++ l) (map-flat_map f g (map v ws) ∙ flat_map-map (λ x. map f (g x)) v ws)
