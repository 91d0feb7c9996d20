-- The values of a slice are those of a list.
use Rattle.std.proofs.Common.{◌≡◌, ◌≤◌, List, [], ◌∷◌, ◌++◌, length, length-append, map, refl, ap, arith}
use Rattle.std.specs.Prelude.{◌&&◌}
use Rattle.values.specs.Data.{Data, boolean, integer, text, list, dictionary, object, Items, no_items, item}
use Rattle.values.specs.View.{data_of, items_of}
use Rattle.values.specs.Weight.{weight, items_weight}
use Rattle.values.specs.declared.value.Value.{Value}
use Rattle.values.specs.Flat.{is_texts, are_texts, items_are_texts, flat, flat_all, flat_items, opened, opened_all, opened_items}

pub are_texts-items_of : (vs : List Value) → items_are_texts (items_of vs) ≡ are_texts (map data_of vs)
are_texts-items_of [] = refl
are_texts-items_of (v ∷ vs) = ap (λ b. is_texts (data_of v) && b) (are_texts-items_of vs)

pub flat-items_of : (vs : List Value) → flat_items (items_of vs) ≡ flat_all (map data_of vs)
flat-items_of [] = refl
flat-items_of (v ∷ vs) = ap (λ ts. flat (data_of v) ++ ts) (flat-items_of vs)

pub opened-items_of : (vs : List Value) → opened_items (items_of vs) ≡ opened_all (map data_of vs)
opened-items_of [] = refl
opened-items_of (v ∷ vs) = ap (λ ds. opened (data_of v) ++ ds) (opened-items_of vs)

-- no more values than the weight
mutual
  pub opened-le-weight : (d : Data) → length (opened d) ≤ weight d
  opened-le-weight (boolean b) = omega arith
  opened-le-weight (integer z) = omega arith
  opened-le-weight (text t) = omega arith
  opened-le-weight (list ds) = omega (arith, opened_items-le-weight ds)
  opened-le-weight (dictionary es) = omega arith
  opened-le-weight (object o) = omega arith

  pub opened_items-le-weight : (ds : Items) → length (opened_items ds) ≤ items_weight ds
  opened_items-le-weight no_items = omega arith
  opened_items-le-weight (item d ds) = omega (arith, length-append (opened d) (opened_items ds), opened-le-weight d, opened_items-le-weight ds)
