-- Names and values, at a place in both lists.
use Rattle.std.proofs.Common.{◌≡◌, ℕ, ◌+◌, ◌≤◌, refl, List, [], ◌∷◌, ◌++◌, Some, Ok, length, drop, slice_get, ap, ◌∙◌}
use Rattle.std.proofs.lemmas.List.{drop_more, drop_all}
use Rattle.std.proofs.lemmas.Option.{slice_get_within, get_or_from_slice_get}
use Rattle.arguments.specs.Said.{◌>>=◌, found_value}
use Rattle.arguments.specs.declared.rule.Rule.TheVariants as rules
use Rattle.values.specs.Data.{text_in, Items, no_items}
use Rattle.values.specs.View.{data_of, items_of}
use Rattle.values.specs.declared.value.Value.{Value}
use Rattle.resources.specs.Testing.{assigned_behind, assignment}

-- where a list goes on
pub goes_on : {A : Type 0} (xs : List A) (i : ℕ) (x : A) → slice_get xs i ≡ Some x → drop i xs ≡ x ∷ drop (i + 1) xs
goes_on xs i x at =
    drop_more xs i x (slice_get_within xs i x at) ∙ ap (λ y. y ∷ drop (i + 1) xs) (get_or_from_slice_get xs i x x at)

-- a name and a value
pub next_assigned : (ts names : List (List ℕ)) (values : List Value) (i : ℕ) (n : List ℕ) (v : Value)
    → slice_get names i ≡ Some n → slice_get values i ≡ Some v
    → assigned_behind ts (drop i names) (items_of (drop i values))
    ≡ found_value (text_in (data_of v)) rules.TakesText n
    >>= (λ t. assigned_behind (ts ++ assignment n t ∷ []) (drop (i + 1) names) (items_of (drop (i + 1) values)))
next_assigned ts names values i n v at there =
    ap (λ ns. assigned_behind ts ns (items_of (drop i values))) (goes_on names i n at)
    ∙ ap (λ (vs : List Value). assigned_behind ts (n ∷ drop (i + 1) names) (items_of vs)) (goes_on values i v there)

no_values : (ts ns : List (List ℕ)) → assigned_behind ts ns no_items ≡ Ok ts
no_values ts [] = refl
no_values ts (n ∷ ns) = refl

-- no name is left
pub no_names_left : (ts names : List (List ℕ)) (i : ℕ) (ds : Items) → length names ≤ i → assigned_behind ts (drop i names) ds ≡ Ok ts
no_names_left ts names i ds h = ap (λ ns. assigned_behind ts ns ds) (drop_all i names h)

-- no value is left
pub no_values_left : (ts ns : List (List ℕ)) (values : List Value) (i : ℕ) → length values ≤ i
    → assigned_behind ts ns (items_of (drop i values)) ≡ Ok ts
no_values_left ts ns values i h = ap (λ (vs : List Value). assigned_behind ts ns (items_of vs)) (drop_all i values h) ∙ no_values ts ns

-- what a list of names and values gives
pub ruleset assigned_cases = (next_assigned, no_names_left, no_values_left)
