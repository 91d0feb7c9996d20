-- Encodes plain data as the steps that build it on a stack, and decodes it again. A type whose view is plain data needs such an encoding.
use Rattle.std.specs.Prelude.{◌≡◌, ℕ, ℤ, Bool, List, [], ◌∷◌, ◌++◌, refl, ◌⊎◌}
use Rattle.std.proofs.Common.{append_assoc, ap, ◌∙◌, sym, inl, inr}
use Rattle.std.proofs.lemmas.List.{append-nil}
use Rattle.std.specs.Coded.{Coded, code_by, coded⊎, coded_ℕ, coded_ℤ, coded_bool, coded_list}
use base.Stored.{coded_unit}
use Rattle.values.specs.declared.object.Object.{Object}
use Rattle.values.specs.contracts.object.Object.{the_row as object_row}
use Rattle.values.specs.Data.{Data, boolean, integer, text, list, dictionary, object, Items, no_items, item, Entries, no_entries, entry}

-- A step that builds plain data on a stack.
pub data Step : Type 0 where
  -- Pushes a boolean.
  make_boolean : Bool → Step
  -- Pushes an integer.
  make_integer : ℤ → Step
  -- Pushes a text.
  make_text : List ℕ → Step
  -- Pushes an object.
  make_object : Object → Step
  -- Pushes an empty list.
  start_list : Step
  -- Takes the list on top and the value below it, and pushes the list with the value as its first item.
  put_item : Step
  -- Pushes an empty dictionary.
  start_dictionary : Step
  -- Takes the dictionary on top and the value below it, and pushes the dictionary with this key and the value as its first entry.
  put_entry : List ℕ → Step

-- A stored step encodes a step in types that have an encoding.
abbrev pub Stored : Type 0
Stored = ((Bool ⊎ ℤ) ⊎ (List ℕ ⊎ Object)) ⊎ ((Unit {0} ⊎ Unit {0}) ⊎ (Unit {0} ⊎ List ℕ))

-- Encodes a step.
abbrev pub stored_step : Step → Stored
stored_step (make_boolean b) = inl (inl (inl b))
stored_step (make_integer z) = inl (inl (inr z))
stored_step (make_text t) = inl (inr (inl t))
stored_step (make_object o) = inl (inr (inr o))
stored_step start_list = inr (inl (inl tt))
stored_step put_item = inr (inl (inr tt))
stored_step start_dictionary = inr (inr (inl tt))
stored_step (put_entry k) = inr (inr (inr k))

-- Decodes a step.
abbrev pub step_in : Stored → Step
step_in (inl (inl (inl b))) = make_boolean b
step_in (inl (inl (inr z))) = make_integer z
step_in (inl (inr (inl t))) = make_text t
step_in (inl (inr (inr o))) = make_object o
step_in (inr (inl (inl u))) = start_list
step_in (inr (inl (inr u))) = put_item
step_in (inr (inr (inl u))) = start_dictionary
step_in (inr (inr (inr k))) = put_entry k

-- Proves that decoding an encoded step gives the step again.
pub step_in_stored : (s : Step) → step_in (stored_step s) ≡ s
step_in_stored (make_boolean b) = refl
step_in_stored (make_integer z) = refl
step_in_stored (make_text t) = refl
step_in_stored (make_object o) = refl
step_in_stored start_list = refl
step_in_stored put_item = refl
step_in_stored start_dictionary = refl
step_in_stored (put_entry k) = refl

-- Returns the encoding of steps.
abbrev pub step_code : Coded Step
step_code = code_by Stored (coded⊎ (coded⊎ (coded⊎ coded_bool coded_ℤ) (coded⊎ (coded_list coded_ℕ) object_row.coded))
    (coded⊎ (coded⊎ coded_unit coded_unit) (coded⊎ coded_unit (coded_list coded_ℕ)))) stored_step step_in step_in_stored

-- Returns the steps that build a value, the items of a list, or the entries of a dictionary.
abbrev mutual
  -- Returns the steps that push a value.
  pub steps : Data → List Step
  steps (boolean b) = make_boolean b ∷ []
  steps (integer z) = make_integer z ∷ []
  steps (text t) = make_text t ∷ []
  steps (list ds) = item_steps ds
  steps (dictionary es) = entry_steps es
  steps (object o) = make_object o ∷ []

  -- Returns the steps that push the list of these items. They build it from its last item to its first.
  pub item_steps : Items → List Step
  item_steps no_items = start_list ∷ []
  item_steps (item d ds) = steps d ++ (item_steps ds ++ put_item ∷ [])

  -- Returns the steps that push the dictionary of these entries. They build it from its last entry to its first.
  pub entry_steps : Entries → List Step
  entry_steps no_entries = start_dictionary ∷ []
  entry_steps (entry k d es) = steps d ++ (entry_steps es ++ put_entry k ∷ [])

-- Returns the stack after one step.
abbrev pub stack_after_step : Step → List Data → List Data
stack_after_step (make_boolean b) s = boolean b ∷ s
stack_after_step (make_integer z) s = integer z ∷ s
stack_after_step (make_text t) s = text t ∷ s
stack_after_step (make_object o) s = object o ∷ s
stack_after_step start_list s = list no_items ∷ s
stack_after_step put_item (list ds ∷ d ∷ s) = list (item d ds) ∷ s
stack_after_step put_item s = s
stack_after_step start_dictionary s = dictionary no_entries ∷ s
stack_after_step (put_entry k) (dictionary es ∷ d ∷ s) = dictionary (entry k d es) ∷ s
stack_after_step (put_entry k) s = s

-- Returns the stack after some steps.
abbrev pub stack_after_all : List Step → List Data → List Data
stack_after_all [] s = s
stack_after_all (t ∷ ts) s = stack_after_all ts (stack_after_step t s)

-- Proves that the steps of a value push that value.
mutual
  -- Proves that the steps of a value push it on any stack, whatever steps follow.
  pub built-steps : (d : Data) (ts : List Step) (s : List Data) → stack_after_all (steps d ++ ts) s ≡ stack_after_all ts (d ∷ s)
  built-steps (boolean b) ts s = refl
  built-steps (integer z) ts s = refl
  built-steps (text t) ts s = refl
  built-steps (list ds) ts s = built-item_steps ds ts s
  built-steps (dictionary es) ts s = built-entry_steps es ts s
  built-steps (object o) ts s = refl

  -- Proves that the steps of items push their list on any stack, whatever steps follow.
  pub built-item_steps : (ds : Items) (ts : List Step) (s : List Data)
      → stack_after_all (item_steps ds ++ ts) s ≡ stack_after_all ts (list ds ∷ s)
  built-item_steps no_items ts s = refl
  built-item_steps (item d ds) ts s =
      ap (λ x. stack_after_all x s) (append_assoc (steps d) (item_steps ds ++ put_item ∷ []) ts)
      ∙ built-steps d ((item_steps ds ++ put_item ∷ []) ++ ts) s
      ∙ ap (λ x. stack_after_all x (d ∷ s)) (append_assoc (item_steps ds) (put_item ∷ []) ts)
      ∙ built-item_steps ds (put_item ∷ ts) (d ∷ s)

  -- Proves that the steps of entries push their dictionary on any stack, whatever steps follow.
  pub built-entry_steps : (es : Entries) (ts : List Step) (s : List Data)
      → stack_after_all (entry_steps es ++ ts) s ≡ stack_after_all ts (dictionary es ∷ s)
  built-entry_steps no_entries ts s = refl
  built-entry_steps (entry k d es) ts s =
      ap (λ x. stack_after_all x s) (append_assoc (steps d) (entry_steps es ++ put_entry k ∷ []) ts)
      ∙ built-steps d ((entry_steps es ++ put_entry k ∷ []) ++ ts) s
      ∙ ap (λ x. stack_after_all x (d ∷ s)) (append_assoc (entry_steps es) (put_entry k ∷ []) ts)
      ∙ built-entry_steps es (put_entry k ∷ ts) (d ∷ s)

-- Returns the items of the list on top of the stack.
abbrev pub items_of_top : List Data → Items
items_of_top (list ds ∷ s) = ds
items_of_top _ = no_items

-- Returns the entries of the dictionary on top of the stack.
abbrev pub entries_of_top : List Data → Entries
entries_of_top (dictionary es ∷ s) = es
entries_of_top _ = no_entries

-- Proves that the steps of items build these items.
pub items_back : (ds : Items) → items_of_top (stack_after_all (item_steps ds) []) ≡ ds
items_back ds = ap (λ x. items_of_top (stack_after_all x [])) (sym (append-nil (item_steps ds)))
    ∙ ap items_of_top (built-item_steps ds [] [])

-- Proves that the steps of entries build these entries.
pub entries_back : (es : Entries) → entries_of_top (stack_after_all (entry_steps es) []) ≡ es
entries_back es = ap (λ x. entries_of_top (stack_after_all x [])) (sym (append-nil (entry_steps es)))
    ∙ ap entries_of_top (built-entry_steps es [] [])

-- Returns the encoding of items, as the steps that build their list.
abbrev pub items_code : Coded Items
items_code = code_by (List Step) (coded_list step_code) item_steps (λ ts. items_of_top (stack_after_all ts [])) items_back

-- Returns the encoding of entries, as the steps that build their dictionary.
abbrev pub entries_code : Coded Entries
entries_code = code_by (List Step) (coded_list step_code) entry_steps (λ ts. entries_of_top (stack_after_all ts [])) entries_back
