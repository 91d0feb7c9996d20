-- Files one after another.
use Rattle.std.proofs.Common.{◌≡◌, ℕ, ◌+◌, ◌<◌, false, List, [], ◌∷◌, ◌++◌, map, drop, length, get_or, Result, Ok, String, Global}
use Rattle.std.proofs.Common.{string_bytes, refl, sym, ap, ◌∙◌}
use Rattle.std.proofs.lemmas.List.{at_drop_more}
use Rattle.values.specs.Data.{object, Items, no_items, item, items_append}
use Rattle.values.specs.Limits.{within_bytes}
use Rattle.values.specs.View.{data_of, items_of}
use Rattle.values.specs.declared.object.Object.TheVariants as objects
use Rattle.values.specs.declared.refusal.OperationRefusal.{OperationRefusal}
use Rattle.values.specs.declared.value.Value.{Value}
use Rattle.values.proofs.ItemsLemmas.{items_of-push}
use Rattle.sources.specs.Values.{and_then, files_behind}

-- one file more
pub files_more : (vs new : List Value) (v : Value) (paths : List (String Global)) (i : ℕ) (p : String Global) (path : List ℕ) (whole : Result Items OperationRefusal)
    → i < length paths → p ≡ get_or paths i p → within_bytes (string_bytes p) ≡ Ok path → data_of v ≡ object (objects.File path false) → new ≡ vs ++ v ∷ []
    → files_behind (items_of vs) (map string_bytes (drop i paths)) ≡ whole → files_behind (items_of new) (map string_bytes (drop (i + 1) paths)) ≡ whole
files_more vs new v paths i p path whole h is w d n now =
    let rest : List (List ℕ) = map string_bytes (drop (i + 1) paths) in
    ap (λ ds. files_behind ds rest) (items_of-push vs new v (items_of vs) n refl ∙ ap (λ e. items_append (items_of vs) (item e no_items)) d)
    ∙ sym (ap (λ r. and_then r (λ q. files_behind (items_append (items_of vs) (item (object (objects.File q false)) no_items)) rest)) w)
    ∙ ap (λ x. files_behind (items_of vs) (string_bytes x ∷ rest)) is
    ∙ sym (at_drop_more (λ us. files_behind (items_of vs) (map string_bytes us)) paths i p h)
    ∙ now
