-- Defines what an option takes.
use Rattle.std.specs.Prelude.{ℕ, ℤ, List, Option}

-- Texts are bytes. A combo takes one of its choices. An integer is within its bounds, if it has any. An array's items are among its
-- choices, if it has any. Words are an array whose text is cut as a shell cuts it.
pub data Kind : Type 0 where
  Text : Kind
  Boolean : Kind
  Combo : (choices : List (List ℕ)) → Kind
  Integer : (least greatest : Option ℤ) → Kind
  Array : (choices : Option (List (List ℕ))) → Kind
  Words : Kind
  Feature : Kind
