-- States what the order of keys means.
use Rattle.std.specs.Prelude.{◌≡◌, ℕ, Bool, List, [], ◌∷◌, bytes_eq}
use Rattle.std.specs.Ordering.{nat_cmp}
use Rattle.std.specs.Cmp.Lexicographic.{slice_cmp}
use Rattle.std.specs.List.{AllByRecursion, list_any}
use Rattle.std.specs.declared.cmp.Ordering.TheVariants.{Less}
use Rattle.operations.specs.methods.Dictionaries.{sorted_with}

-- Holds if each text is less than all after it, compared byte by byte. So no text occurs twice.
abbrev pub Ascend : List (List ℕ) → Type 0
Ascend [] = Unit {0}
Ascend (t ∷ ts) = AllByRecursion (λ u. slice_cmp nat_cmp t u ≡ Less) ts × Ascend ts

-- Holds if a text is one of some texts.
abbrev pub is_among : List ℕ → List (List ℕ) → Bool
is_among t ts = list_any (bytes_eq t) ts

-- States that sorted keys ascend and are the same keys.
abbrev pub KeysAscend : Type 0
KeysAscend = (ks : List (List ℕ)) → Ascend (sorted_with [] ks) × ((k : List ℕ) → is_among k (sorted_with [] ks) ≡ is_among k ks)
