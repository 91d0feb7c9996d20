-- One part of a text with placeholders after another.
use Rattle.std.proofs.Common.{◌≡◌, List, ◌∷◌, ◌++◌, Option, Some, None, codes, refl, sym, ap, ◌∙◌, append_assoc}
use Rattle.build.specs.edge.Texts.{Text}
use Rattle.sources.specs.Holes.{MeaningData, stays, means, behind_text, step, filled_behind}

behind_behind : (a b : Text) (o : Option Text) → behind_text a (behind_text b o) ≡ behind_text (a ++ b) o
behind_behind a b None = refl
behind_behind a b (Some t) = ap Some (sym (append_assoc a b t))

module _ (m : Text → MeaningData) (made now : Text) (name text : Text) (others : List Text) where
  pub stays_step : m name ≡ stays → now ≡ (made ++ codes "@") ++ name → behind_text now (filled_behind m (text ∷ others)) ≡ behind_text made (filled_behind m (name ∷ text ∷ others))
  stays_step e f =
      ap (λ x. behind_text x (filled_behind m (text ∷ others))) (f ∙ append_assoc made (codes "@") name)
      ∙ sym (behind_behind made (codes "@" ++ name) (filled_behind m (text ∷ others)))
      ∙ ap (λ x. behind_text made (step x name text (filled_behind m (text ∷ others)) (filled_behind m others))) (sym e)

  pub means_step : (value : Text) → m name ≡ means value → now ≡ (made ++ value) ++ text → behind_text now (filled_behind m others) ≡ behind_text made (filled_behind m (name ∷ text ∷ others))
  means_step value e f =
      ap (λ x. behind_text x (filled_behind m others)) (f ∙ append_assoc made value text)
      ∙ sym (behind_behind made (value ++ text) (filled_behind m others))
      ∙ ap (λ x. behind_text made (step x name text (filled_behind m (text ∷ others)) (filled_behind m others))) (sym e)
