-- Texts as items, one after another.
use Rattle.std.proofs.Common.{◌≡◌, ℕ, ◌+◌, ◌<◌, Bor, List, ◌∷◌, map, length, drop, get_or, ap}
use Rattle.std.proofs.lemmas.List.{drop_more}
use Rattle.values.specs.Data.{text, Items, no_items, item, items_append}
use Rattle.values.proofs.ItemsLemmas.{items_append_assoc}
use Rattle.operations.specs.methods.TextLists.{texts}

pub next_text : (ts : List (Bor (List ℕ))) (i : ℕ) (x : Bor (List ℕ)) → i < length ts
    → map (λ t. t.now) (drop i ts) ≡ (get_or ts i x).now ∷ map (λ t. t.now) (drop (i + 1) ts)
next_text ts i x h = ap (map (λ t. t.now)) (drop_more ts i x h)

pub appended : (ds : Items) (t : List ℕ) (rest : List (List ℕ))
    → items_append (items_append ds (item (text t) no_items)) (texts rest) ≡ items_append ds (texts (t ∷ rest))
appended ds t rest = items_append_assoc ds (item (text t) no_items) (texts rest)
