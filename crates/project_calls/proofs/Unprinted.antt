-- The first name whose value can't be printed, at a place in both lists.
use Rattle.std.proofs.Common.{◌≡◌, ℕ, ◌+◌, ◌≤◌, refl, List, [], ◌∷◌, Some, length, drop, slice_get, ap, ◌∙◌}
use Rattle.std.proofs.lemmas.List.{drop_more, drop_all}
use Rattle.std.proofs.lemmas.Option.{slice_get_within, get_or_from_slice_get}
use Rattle.values.specs.Data.{Items, no_items}
use Rattle.values.specs.View.{data_of, items_of}
use Rattle.values.specs.declared.value.Value.{Value}
use Rattle.values.specs.printing.Printed.{printed_value}
use Rattle.project_calls.specs.Defaults.{first_unprinted, unless_printed}

-- where a list goes on
goes_on : {A : Type 0} (xs : List A) (i : ℕ) (x : A) → slice_get xs i ≡ Some x → drop i xs ≡ x ∷ drop (i + 1) xs
goes_on xs i x at =
    drop_more xs i x (slice_get_within xs i x at) ∙ ap (λ y. y ∷ drop (i + 1) xs) (get_or_from_slice_get xs i x x at)

-- a name and a value
pub next_unprinted : (names : List (List ℕ)) (values : List Value) (i : ℕ) (n : List ℕ) (v : Value)
    → slice_get names i ≡ Some n → slice_get values i ≡ Some v
    → first_unprinted (drop i names) (items_of (drop i values))
    ≡ unless_printed (printed_value (data_of v)) n (first_unprinted (drop (i + 1) names) (items_of (drop (i + 1) values)))
next_unprinted names values i n v at there =
    ap (λ ns. first_unprinted ns (items_of (drop i values))) (goes_on names i n at)
    ∙ ap (λ (vs : List Value). first_unprinted (n ∷ drop (i + 1) names) (items_of vs)) (goes_on values i v there)

no_values : (ns : List (List ℕ)) → first_unprinted ns no_items ≡ []
no_values [] = refl
no_values (n ∷ ns) = refl

-- no name is left
pub no_names_left : (names : List (List ℕ)) (i : ℕ) (ds : Items) → length names ≤ i → first_unprinted (drop i names) ds ≡ []
no_names_left names i ds h = ap (λ ns. first_unprinted ns ds) (drop_all i names h)

-- no value is left
pub no_values_left : (ns : List (List ℕ)) (values : List Value) (i : ℕ) → length values ≤ i
    → first_unprinted ns (items_of (drop i values)) ≡ []
no_values_left ns values i h = ap (λ (vs : List Value). first_unprinted ns (items_of vs)) (drop_all i values h) ∙ no_values ns

-- what comes next, at a place
pub ruleset unprinted_cases = (next_unprinted, no_names_left, no_values_left)
