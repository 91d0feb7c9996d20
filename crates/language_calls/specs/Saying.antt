-- Defines texts that are logged one after another.
use Rattle.std.specs.Prelude.{ℕ, List, [], ◌∷◌, codes}
use Rattle.std.specs.List.{flat_map}
use Rattle.values.specs.Data.{Data}
use Rattle.values.specs.printing.Printed.{text_of_value}
use Rattle.world.specs.Deed.{Deed, give, ◌>>=◌, say}

-- Writes each of these texts to the log.
abbrev pub say_each : List (List ℕ) → Deed (Unit {0})
say_each [] = give tt
say_each (t ∷ ts) = do
  _ ← say t
  say_each ts

-- Returns printed values with a space before each.
abbrev pub behind_spaces : List Data → List (List ℕ)
behind_spaces ds = flat_map (λ d. codes " " ∷ text_of_value d ∷ []) ds
