-- Values that are printed one after another.
use Rattle.std.proofs.Common.{◌≡◌, ℕ, ◌+◌, ◌<◌, List, [], ◌∷◌, ◌++◌, map, drop, length, get_or, Result, Ok, String, Global}
use Rattle.std.proofs.Common.{string_bytes, sym, ap, ◌∙◌}
use Rattle.std.proofs.lemmas.List.{at_drop_more, map-append}
use Rattle.values.specs.View.{data_of, items_of}
use Rattle.values.specs.declared.refusal.OperationRefusal.{OperationRefusal}
use Rattle.values.specs.declared.value.Value.{Value}
use Rattle.values.specs.printing.Printed.{printed_value}
use Rattle.project_calls.specs.Defaults.{printed_behind}
use Rattle.operations.specs.operators.TextLists.{and_then}

-- one value more
pub printed_more : (ts new : List (String Global)) (t : String Global) (vs : List Value) (i : ℕ) (v : Value) (whole : Result (List (List ℕ)) OperationRefusal)
    → i < length vs → v ≡ get_or vs i v → Ok (string_bytes t) ≡ printed_value (data_of v) → new ≡ ts ++ t ∷ []
    → printed_behind (map string_bytes ts) (items_of (drop i vs)) ≡ whole → printed_behind (map string_bytes new) (items_of (drop (i + 1) vs)) ≡ whole
printed_more ts new t vs i v whole h is p n now =
    ap (λ us. printed_behind (map string_bytes us) (items_of (drop (i + 1) vs))) n
    ∙ ap (λ us. printed_behind us (items_of (drop (i + 1) vs))) (map-append string_bytes ts (t ∷ []))
    ∙ ap (λ r. and_then r (λ x. printed_behind (map string_bytes ts ++ x ∷ []) (items_of (drop (i + 1) vs)))) p
    ∙ ap (λ x. and_then (printed_value (data_of x)) (λ y. printed_behind (map string_bytes ts ++ y ∷ []) (items_of (drop (i + 1) vs)))) is
    ∙ sym (at_drop_more (λ us. printed_behind (map string_bytes ts) (items_of us)) vs i v h)
    ∙ now
