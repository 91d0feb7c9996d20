-- Options that are listed one after another.
use Rattle.std.proofs.Common.{◌≡◌, ℕ, ◌+◌, ◌<◌, List, [], ◌∷◌, ◌++◌, length, map, take, get_or, Option, Some, None, option_map, slice_get}
use Rattle.std.proofs.Common.{String, Global, string_bytes, refl, sym, ap, ◌∙◌, arith}
use Rattle.std.proofs.lemmas.List.{take_more, map-append}
use Rattle.std.proofs.lemmas.Option.{get_or_from_slice_get, slice_get_within, slice_get-get_or}
use Rattle.options.specs.option_file.Declarations.{Declaration}
use Rattle.option_values.specs.Values.{Value}
use Rattle.option_values.specs.Settings.{named_value, Setting}
use Rattle.build.specs.View.{option_entry_view}
use Rattle.build.specs.declared.facts.OptionEntry.{OptionEntry}
use Rattle.project_calls.specs.Entries.{entry_of}

more_by : {A B : Type 0} (f : A → B) (xs : List A) (i : ℕ) (b : B) (o : Option A) → slice_get xs i ≡ o → Some b ≡ option_map f o → map f (take (i + 1) xs) ≡ map f (take i xs) ++ b ∷ []
more_by f xs i b None is e = absurd (let n : Some b ≡ None = e in cc)
more_by f xs i b (Some x) is e =
    let same : f x ≡ b = let s : Some b ≡ Some (f x) = e in cc in
    ap (map f) (take_more xs i x (slice_get_within xs i x is)) ∙ map-append f (take i xs) (get_or xs i x ∷ [])
    ∙ ap (λ y. map f (take i xs) ++ f y ∷ []) (get_or_from_slice_get xs i x x is) ∙ ap (λ y. map f (take i xs) ++ y ∷ []) same

-- one option more
pub listed_more : (es : List OptionEntry) {new : List OptionEntry} (e : OptionEntry) (ss : List Setting) (i : ℕ) (named : List ℕ × Value) → new ≡ es ++ e ∷ [] → option_entry_view e ≡ entry_of named
    → map option_entry_view es ≡ map entry_of (map named_value (take i ss)) → Some named ≡ option_map named_value (slice_get ss i)
    → map option_entry_view new ≡ map entry_of (map named_value (take (i + 1) ss))
listed_more es e ss i named is entry before found =
    ap (map option_entry_view) is ∙ map-append option_entry_view es (e ∷ []) ∙ ap (λ x. map option_entry_view es ++ x ∷ []) entry ∙ ap (λ xs. xs ++ entry_of named ∷ []) before
    ∙ sym (ap (map entry_of) (more_by named_value ss i named (slice_get ss i) refl found) ∙ map-append entry_of (map named_value (take i ss)) (named ∷ []))

none_by : {A B : Type 0} (f : A → B) (xs : List A) (i : ℕ) (o : Option A) → slice_get xs i ≡ o → None ≡ option_map f o → i < length xs → ⊥
none_by f xs i (Some x) is e lt = let n : None ≡ Some (f x) = e in cc
none_by f [] i None is e lt = omega arith
none_by f (x ∷ xs) i None is e lt = let n : None ≡ Some (get_or (x ∷ xs) i x) = sym is ∙ slice_get-get_or (x ∷ xs) i x lt in cc

-- there is an option at each number below the count
pub is_listed : {C : Type 0} (ss : List Setting) (i : ℕ) → None ≡ option_map named_value (slice_get ss i) → i < length ss → C
is_listed ss i e lt = absurd (none_by named_value ss i (slice_get ss i) refl e lt)

-- one name more
pub named_more : (ns : List (String Global)) {new : List (String Global)} (n : String Global) (ds : List Declaration) (i : ℕ) (d : Declaration) → new ≡ ns ++ n ∷ [] → string_bytes n ≡ d.name
    → map string_bytes ns ≡ map (λ (e : Declaration). e.name) (take i ds) → Some d ≡ slice_get ds i → map string_bytes new ≡ map (λ (e : Declaration). e.name) (take (i + 1) ds)
named_more ns n ds i d is name before found =
    ap (map string_bytes) is ∙ map-append string_bytes ns (n ∷ []) ∙ ap (λ x. map string_bytes ns ++ x ∷ []) name ∙ ap (λ xs. xs ++ d.name ∷ []) before
    ∙ sym (more_by (λ (e : Declaration). e.name) ds i d.name (slice_get ds i) refl (ap (option_map (λ (e : Declaration). e.name)) found))
