-- The rounds of loops.
use Rattle.std.proofs.Common.{◌≡◌, ℕ, zero, suc, ◌+◌, ◌<◌, ◌≤◌, true, false, List, [], ◌∷◌, length, drop, get_or, add-one, drop-cons}
use Rattle.std.proofs.Common.{drop_of_length-le, Option, Some, None, is_some, Ok, refl, ap, ◌∙◌, arith}
use Rattle.std.specs.Prelude.{slice_get}
use Rattle.std.proofs.lemmas.Option.{get_or_from_slice_get}
use Rattle.values.specs.Data.{Data, boolean, integer, text, list, dictionary, object, Items, no_items, item, count, items_in, Entries}
use Rattle.values.specs.Data.{no_entries, entry, entry_count, entry_values, entries_in, keys_in}
use Rattle.values.specs.Few.{item_count}
use Rattle.values.specs.View.{data_of, items_of}
use Rattle.values.specs.declared.value.Value.{Value}
use Rattle.expressions.specs.Rounds.{HasFewRounds, Loops, Round, entry_rounds, item_rounds, loop_rounds}

rounds_counted : (xs : List Value) → length (item_rounds (items_of xs)) ≡ length xs
rounds_counted [] = refl
rounds_counted (x ∷ xs) = ap suc (rounds_counted xs)

item_got : (xs : List Value) (i : ℕ) (d : Value) (r : Round) → i < length xs → get_or (item_rounds (items_of xs)) i r ≡ (data_of (get_or xs i d), None)
item_got [] i d r h = absurd (omega arith)
item_got (x ∷ xs) zero d r h = refl
item_got (x ∷ xs) (suc i) d r h = item_got xs i d r (omega arith)

-- none is left behind the last item
pub items_behind : (xs : List Value) (i : ℕ) → length xs ≤ i → drop i (item_rounds (items_of xs)) ≡ []
items_behind xs i h = drop_of_length-le (item_rounds (items_of xs)) (omega (arith, h, rounds_counted xs))

-- the round of an item, and those behind it
pub item_there : (xs : List Value) (i : ℕ) (d : Value) → i < length xs
    → drop i (item_rounds (items_of xs)) ≡ (data_of (get_or xs i d), None) ∷ drop (i + 1) (item_rounds (items_of xs))
item_there xs i d h =
    rw (add-one, drop-cons (item_rounds (items_of xs)) i (data_of d, None) (omega (arith, h, rounds_counted xs)))
    (ap (λ r. r ∷ drop (suc i) (item_rounds (items_of xs))) (item_got xs i d (data_of d, None) h))

rounds_of_items : (ds : Items) → count ds ≡ length (item_rounds ds)
rounds_of_items no_items = refl
rounds_of_items (item d ds) = ap suc (rounds_of_items ds)

rounds_of_entries : (es : Entries) → entry_count es ≡ length (entry_rounds es)
rounds_of_entries no_entries = refl
rounds_of_entries (entry k d es) = ap suc (rounds_of_entries es)

-- there are no more rounds than items
pub rounds_few : (d : Data) → item_count d ≤ 65536 → HasFewRounds d
rounds_few (list ds) few = omega (arith, few, rounds_of_items ds)
rounds_few (dictionary es) few = omega (arith, few, rounds_of_entries es)
rounds_few (boolean b) few = omega arith
rounds_few (integer z) few = omega arith
rounds_few (text t) few = omega arith
rounds_few (object o) few = omega arith

one_name : (ds : Items) (second : Option (List ℕ)) → is_some second ≡ false → loop_rounds second (list ds) ≡ Ok (item_rounds ds)
one_name ds None h = refl
one_name ds (Some name) h = absurd (let f : true ≡ false = h in cc)

two_names : (es : Entries) (second : Option (List ℕ)) → is_some second ≡ true → loop_rounds second (dictionary es) ≡ Ok (entry_rounds es)
two_names es None h = absurd (let f : false ≡ true = h in cc)
two_names es (Some name) h = refl

-- a list is walked by one name
pub loops_list : (d : Data) (ds : Items) → items_in d ≡ Some ds → Loops false d (Ok tt)
loops_list (list es) ds e = one_name es
loops_list (boolean b) ds e = absurd (let h : None ≡ Some ds = e in cc)
loops_list (integer z) ds e = absurd (let h : None ≡ Some ds = e in cc)
loops_list (text t) ds e = absurd (let h : None ≡ Some ds = e in cc)
loops_list (dictionary es) ds e = absurd (let h : None ≡ Some ds = e in cc)
loops_list (object o) ds e = absurd (let h : None ≡ Some ds = e in cc)

-- a dictionary is walked by two
pub loops_dictionary : (d : Data) (es : Entries) → entries_in d ≡ Some es → Loops true d (Ok tt)
loops_dictionary (dictionary ds) es e = two_names ds
loops_dictionary (boolean b) es e = absurd (let h : None ≡ Some es = e in cc)
loops_dictionary (integer z) es e = absurd (let h : None ≡ Some es = e in cc)
loops_dictionary (text t) es e = absurd (let h : None ≡ Some es = e in cc)
loops_dictionary (list ds) es e = absurd (let h : None ≡ Some es = e in cc)
loops_dictionary (object o) es e = absurd (let h : None ≡ Some es = e in cc)

-- none is left behind the last entry
pub entry_behind : (es : Entries) (i : ℕ) → entry_count es ≤ i → drop i (entry_rounds es) ≡ []
entry_behind es i h = drop_of_length-le (entry_rounds es) (omega (arith, h, rounds_of_entries es))

entry_got : (es : Entries) (i : ℕ) (k : List ℕ) (vs : List Value) (v : Value) (r : Round) → i < entry_count es → items_of vs ≡ entry_values es
    → get_or (entry_rounds es) i r ≡ (text (get_or (keys_in es) i k), Some (data_of (get_or vs i v)))
entry_got no_entries i k vs v r h e = absurd (omega arith)
entry_got (entry q d es) i k [] v r h e = absurd (let f : no_items ≡ item d (entry_values es) = e in cc)
entry_got (entry q d es) zero k (x ∷ xs) v r h e =
    let f : item (data_of x) (items_of xs) ≡ item d (entry_values es) = e in
    let g : d ≡ data_of x = cc in
    ap (λ y. (text q, Some y)) g
entry_got (entry q d es) (suc i) k (x ∷ xs) v r h e =
    let f : item (data_of x) (items_of xs) ≡ item d (entry_values es) = e in
    let g : items_of xs ≡ entry_values es = cc in
    entry_got es i k xs v r (omega arith) g

-- the round of an entry, and those behind it
pub entry_there : (es : Entries) (i : ℕ) (k : List ℕ) (vs : List Value) (v : Value) → i < entry_count es → slice_get (keys_in es) i ≡ Some k → items_of vs ≡ entry_values es
    → drop i (entry_rounds es) ≡ (text k, Some (data_of (get_or vs i v))) ∷ drop (i + 1) (entry_rounds es)
entry_there es i k vs v h at same =
    rw (add-one, drop-cons (entry_rounds es) i (text k, None) (omega (arith, h, rounds_of_entries es)))
    (ap (λ r. r ∷ drop (suc i) (entry_rounds es))
    (entry_got es i k vs v (text k, None) h same ∙ ap (λ q. (text q, Some (data_of (get_or vs i v)))) (get_or_from_slice_get (keys_in es) i k k at)))

-- there are as many values as keys
pub values_within : (vs : List Value) (es : Entries) (i : ℕ) → items_of vs ≡ entry_values es → i < entry_count es → i < length vs
values_within [] no_entries i e h = absurd (omega arith)
values_within [] (entry k d es) i e h = absurd (let f : no_items ≡ item d (entry_values es) = e in cc)
values_within (x ∷ xs) no_entries i e h = absurd (omega arith)
values_within (x ∷ xs) (entry k d es) zero e h = omega arith
values_within (x ∷ xs) (entry k d es) (suc i) e h =
    let f : item (data_of x) (items_of xs) ≡ item d (entry_values es) = e in
    let g : items_of xs ≡ entry_values es = cc in
    omega (arith, values_within xs es i g (omega arith))
