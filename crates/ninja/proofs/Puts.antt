-- Texts that are put one after the other.
use Rattle.std.proofs.Common.{◌≡◌, ℕ, List, [], ◌∷◌, ◌++◌, refl, sym, ap, subst, ◌∙◌}
use Rattle.std.specs.List.{flat_map}
use Rattle.std.proofs.lemmas.List.{map-append}
use Rattle.ports.specs.Endings.{Ending}
use Rattle.ports.specs.Outputs.{OutputState, Puts, Step, Writes, puts}

pub puts-append : (a b : List ℕ) → puts (a ++ b) ≡ puts a ++ puts b
unfolding puts
puts-append a b = map-append (λ b. Puts b) a b

pub puts-nil : puts [] ≡ []
unfolding puts
puts-nil = refl

-- a text for each item
pub puts-flat_map : {X : Type 0} (f : X → List ℕ) (xs : List X) → flat_map (λ x. puts (f x)) xs ≡ puts (flat_map f xs)
puts-flat_map f [] = sym puts-nil
puts-flat_map f (x ∷ xs) = ap (λ r. puts (f x) ++ r) (puts-flat_map f xs) ∙ sym (puts-append (f x) (flat_map f xs))

-- two runs, each of which puts a text
pub join : {s t : List Step} (a b : List ℕ) → s ≡ puts a → t ≡ puts b → s ++ t ≡ puts (a ++ b)
join {s} {t} a b e f = ap (λ r. r ++ t) e ∙ ap (λ r. puts a ++ r) f ∙ sym (puts-append a b)

-- a run, as the run that it is
pub writes_over : {old new : OutputState} {e : Ending} (a b : List Step) → a ≡ b → Writes old a e new → Writes old b e new
writes_over {old = old} {new = new} {e = e} a b same w = subst (λ run. Writes old run e new) same w
