-- Turns texts into the items of a list.
use Rattle.std.specs.Prelude.{ℕ, List, [], ◌∷◌}
use Rattle.values.specs.Data.{text, Items, no_items, item}

-- Returns texts as items.
abbrev pub texts : List (List ℕ) → Items
texts [] = no_items
texts (t ∷ ts) = item (text t) (texts ts)
