-- Texts without placeholders.
use Rattle.std.proofs.Common.{◌≡◌, ◌==◌, eqb, false, List, ℕ, [], ◌∷◌, Some, refl, ap, ◌∙◌, append-nil}
use Rattle.std.specs.List.{slice_split, onto_first}
use Rattle.std.proofs.lemmas.Bool.{or_parts}
use Rattle.std.proofs.lemmas.List.Splits.{slice_split-cons_no}
use Rattle.sources.specs.Holes.{PlaceData, meaning_of_name, filled_parts, filled_text}
use Rattle.support.specs.paths.Names.{has}
use Rattle.sources.specs.declared.placeholders.PlaceholderScope.{PlaceholderScope}

-- a text without an `@` is one part
one_part : (text : List ℕ) → has 64 text ≡ false → slice_split (λ b. b == 64) text ≡ text ∷ []
one_part [] h = refl
one_part (b ∷ bs) h =
    let s = or_parts (eqb b 64) (has 64 bs) h in
    slice_split-cons_no (λ b. b == 64) b bs s.0 ∙ ap (onto_first b) (one_part bs s.1)

pub filled_unmarked : (scope : PlaceholderScope) (at : PlaceData) (text : List ℕ) → has 64 text ≡ false → filled_text scope at text ≡ Some text
filled_unmarked scope at text h = ap (filled_parts (meaning_of_name scope at)) (one_part text h) ∙ ap Some (append-nil text)
