-- The values of places, by numbers of any size.
use Rattle.std.proofs.Common.{◌≡◌, ℕ, ◌≤◌, ◌^◌, Bool, true, false, List, length, Some, None, refl, sym, nat_lt, arith}
use Rattle.std.specs.Prelude.{◌&&◌, slice_get, option_and_then, if◌then◌else◌}
use Rattle.std.proofs.lemmas.Bool.Decides.{nat_tests}
use Rattle.std.proofs.lemmas.Option.{slice_get_past}
use Rattle.std.specs.Str.Parse.{digits_value}
use Rattle.values.specs.Data.{Data}
use Rattle.values.specs.texts.Segments.{is_number}
use Rattle.operations.specs.methods.PlaceNumbers.{PlacesCount}

counted : (values : List Data) (n most : ℕ) (a b : Bool) → length values ≤ most → nat_lt n most ≡ b
    → option_and_then (slice_get values) (if a && b then Some n else None) ≡ (if a then slice_get values n else None)
counted values n most true true few test = refl
counted values n most true false few test =
    let past : most ≤ n = grind (arith, nat_tests) in sym (slice_get_past values n (omega (arith, few, past)))
counted values n most false b few test = refl

pub places_do : PlacesCount
places_do values name few = counted values (digits_value 10 name) (2 ^ 64) (is_number name) (nat_lt (digits_value 10 name) (2 ^ 64)) few refl
