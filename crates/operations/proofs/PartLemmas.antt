-- Items by their place.
use Rattle.std.proofs.Common.{◌≡◌, ℕ, zero, suc, option_map, List, [], ◌∷◌, refl}
use Rattle.std.specs.Prelude.{slice_get}
use Rattle.values.specs.View.{data_of, items_of}
use Rattle.values.specs.declared.value.Value.{Value}
use Rattle.operations.specs.operators.Index.{item_at}

pub item_at-items_of : (vs : List Value) (k : ℕ) → item_at (items_of vs) k ≡ option_map data_of (slice_get vs k)
item_at-items_of [] k = refl
item_at-items_of (v ∷ vs) zero = refl
item_at-items_of (v ∷ vs) (suc k) = item_at-items_of vs k
