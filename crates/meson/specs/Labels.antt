-- Relates the code that keeps the labels of lines to their list.
use Rattle.std.specs.Prelude.{◌≡◌, ℕ, Bool, false, ◌&&◌, ◌||◌, List, [], ◌∷◌, length, bytes_eq}
use Rattle.std.specs.List.{list_any}
use Rattle.meson.specs.Questions.{Label, is_told}
use Rattle.meson.specs.declared.labels.Labels.{Labels}

-- Returns whether a label is in the lists of the first parts, one for each second part.
abbrev pub held_in : List (List ℕ) → List (List (List ℕ)) → Label → Bool
held_in [] hss l = false
held_in (b ∷ bs) [] l = false
held_in (b ∷ bs) (hs ∷ hss) l = (list_any (bytes_eq l.0) hs && bytes_eq l.1 b) || held_in bs hss l

-- Holds if there is a list of the first parts for each second part.
abbrev pub Fits : Labels → Type 0
Fits t = length t.besides ≡ length t.heads.items

-- The labels are these.
pub record Knows (t : Labels) (told : List Label) : Type 0 where
  pub same : (l : Label) → held_in t.besides t.heads.items l ≡ is_told l told
