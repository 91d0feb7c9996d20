-- Defines sets in order of insertion.
use Rattle.std.specs.Prelude.{Bool, List, [], ◌∷◌, ◌++◌, if◌then◌else◌, fold}
use Rattle.std.specs.List.{list_any}

-- The keys of a set, in order of insertion.
pub record KeySet (K : Type 0) : Type 0 where
  pub keys : List K

module _ {K : Type 0} (eq : K → K → Bool) where
  -- Returns the keys with one more at the end, unless they already contain an equal one.
  abbrev pub insert_key : List K → K → List K
  insert_key ks k = if list_any (eq k) ks then ks else ks ++ k ∷ []

  -- Returns the keys with each of the others inserted in turn.
  abbrev pub insert_all : List K → List K → List K
  insert_all ks others = fold insert_key ks others
