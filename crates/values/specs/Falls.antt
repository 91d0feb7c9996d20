-- Proves that the content of a list or a dictionary is smaller than the list or dictionary itself, so that recursion over values ends.
use Rattle.std.specs.Prelude.{◌≡◌, ◌≤◌, ℕ, List, [], ◌∷◌, length}
use Rattle.std.proofs.Common.{arith}
use denote.Param.Weighed.{most}
use Rattle.values.specs.Weight.{weight, items_weight, entries_weight}
use Rattle.values.specs.View.{data_of, items_of, entries_of}
use Rattle.values.specs.declared.value.Value.{Value}
use Rattle.values.specs.declared.value.Value.TheVariants as value
use Rattle.values.specs.declared.value.Dictionary.TheDeep.{deep-Value}

-- Proves that the size of what a value contains, `deep-Value`, is at most the value's weight.
pub deep-le-weight : (v : Value) → deep-Value v ≤ weight (data_of v)
deep-le-weight (value.Boolean b) = omega arith
deep-le-weight (value.Integer z) = omega arith
deep-le-weight (value.Text t) = omega arith
deep-le-weight (value.List l) = omega arith
deep-le-weight (value.Dictionary d) = omega arith
deep-le-weight (value.Object o) = omega arith

-- Proves that this size is at most the weight of all items, for each of some items.
pub most-le-items_weight : (vs : List Value) → most deep-Value vs ≤ items_weight (items_of vs)
most-le-items_weight [] = omega arith
most-le-items_weight (v ∷ vs) = omega (arith, deep-le-weight v, most-le-items_weight vs)

-- Proves that this size is at most the weight of all entries, for each value of a dictionary.
pub most-le-entries_weight : (ks : List (List ℕ)) (vs : List Value) → length ks ≡ length vs
    → most deep-Value vs ≤ entries_weight (entries_of ks vs)
most-le-entries_weight [] [] fit = omega arith
most-le-entries_weight [] (v ∷ vs) fit = absurd (omega arith)
most-le-entries_weight (k ∷ ks) [] fit = absurd (omega arith)
most-le-entries_weight (k ∷ ks) (v ∷ vs) fit = omega (arith, deep-le-weight v, most-le-entries_weight ks vs (omega arith))
