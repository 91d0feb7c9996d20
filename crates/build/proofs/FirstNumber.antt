-- The first number of a version.
use Rattle.std.proofs.Common.{◌≡◌, ◌≢◌, ℕ, suc, ◌<◌, List, [], ◌∷◌, ◌++◌, length, get_or, refl, ap, ◌∙◌, arith, inl, inr, eqb}
use Rattle.std.specs.Prelude.{if◌then◌else◌}
use Rattle.std.proofs.lemmas.Bool.{cases_Bool, eqb-true}
use Rattle.build.specs.Files.{first_number}

no_dot : (b : ℕ) (bs rest : List ℕ) → b ≢ 46 → (if eqb b 46 then [] else b ∷ bs) ≡ b ∷ bs
no_dot b bs rest other = elim (cases_Bool (eqb b 46)) [
  | inl e ↦ absurd (other (eqb-true b 46 e))
  | inr e ↦ rw e refl
]

-- without a dot it is all
pub first_number-plain : (bs : List ℕ) → ((i : ℕ) → i < length bs → get_or bs i 0 ≢ 46) → first_number bs ≡ bs
first_number-plain [] h = refl
first_number-plain (b ∷ bs) h = no_dot b (first_number bs) [] (h 0 (omega arith)) ∙ ap (λ cs. b ∷ cs) (first_number-plain bs (λ i lt. h (suc i) (omega arith)))

-- what stands before the first dot
pub first_number-parts : (part behind : List ℕ) → ((i : ℕ) → i < length part → get_or part i 0 ≢ 46) → first_number (part ++ 46 ∷ behind) ≡ part
first_number-parts [] behind h = refl
first_number-parts (b ∷ bs) behind h =
    no_dot b (first_number (bs ++ 46 ∷ behind)) [] (h 0 (omega arith)) ∙ ap (λ cs. b ∷ cs) (first_number-parts bs behind (λ i lt. h (suc i) (omega arith)))
