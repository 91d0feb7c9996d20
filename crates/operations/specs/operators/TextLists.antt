-- Defines the list of some texts.
use Rattle.std.specs.Prelude.{◌≡◌, ℕ, List, [], ◌∷◌, ◌++◌, Result, Ok, Err}
use Rattle.std.specs.declared.alloc.Global.{Global}
use Rattle.std.specs.declared.vec.Vec.{Vec}
use Rattle.values.specs.Data.{Data, text, list, Items, no_items, item, items_append}
use Rattle.values.specs.Limits.{within}
use Rattle.values.specs.View.{data_of, items_of}
use Rattle.values.specs.declared.refusal.OperationRefusal.{OperationRefusal}
use Rattle.values.specs.declared.value.Value.{Value}

-- Returns the values of a result as items.
abbrev pub items_in : Result (Vec Value Global) OperationRefusal → Result Items OperationRefusal
items_in (Ok values) = Ok (items_of values.items)
items_in (Err refusal) = Err refusal

-- Runs a step after another, unless that was refused.
abbrev pub and_then : {A B : Type 0} → Result A OperationRefusal → (A → Result B OperationRefusal) → Result B OperationRefusal
and_then (Ok a) next = next a
and_then (Err refusal) next = Err refusal

-- Holds if a text was appended to the values, or is longer than the limit of a text.
abbrev pub PutsText : List Value → List ℕ → List Value → Result (Unit {0}) OperationRefusal → Type 0
PutsText before t after (Ok done) = (v : Value) × (after ≡ before ++ (v ∷ [])) × (within (text t) ≡ Ok (data_of v))
PutsText before t after (Err refusal) = within (text t) ≡ Err refusal

-- Returns items followed by texts, each of which must be within the limit of a text.
abbrev pub texts_behind : Items → List (List ℕ) → Result Items OperationRefusal
texts_behind ds [] = Ok ds
texts_behind ds (t ∷ ts) = and_then (within (text t)) (λ d. texts_behind (items_append ds (item d no_items)) ts)

-- Returns the list of some texts if each of them and the list are within the limits.
abbrev pub text_list : List (List ℕ) → Result Data OperationRefusal
text_list ts = and_then (texts_behind no_items ts) (λ ds. within (list ds))
