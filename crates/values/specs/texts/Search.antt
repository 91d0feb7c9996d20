-- Defines whether a text contains another.
use Rattle.std.specs.Prelude.{ℕ, Bool, ◌||◌, List, [], ◌∷◌, nat_eq}
use Rattle.std.specs.List.{starts_with}

-- Holds if a text contains a part.
abbrev pub contains : List ℕ → List ℕ → Bool
contains [] part = starts_with nat_eq [] part
contains (b ∷ bs) part = starts_with nat_eq (b ∷ bs) part || contains bs part
