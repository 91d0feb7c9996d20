-- Defines how lists of any depth are flattened.
use Rattle.std.specs.Prelude.{ℕ, Bool, true, false, ◌&&◌, List, [], ◌∷◌, ◌++◌}
use Rattle.values.specs.Data.{Data, boolean, integer, text, list, dictionary, object, Items, no_items, item}

-- Holds if a value is a text, or a list of such values of any depth.
abbrev mutual
  pub is_texts : Data → Bool
  is_texts (text t) = true
  is_texts (list ds) = items_are_texts ds
  is_texts (boolean b) = false
  is_texts (integer z) = false
  is_texts (dictionary es) = false
  is_texts (object o) = false

  -- Holds if each item is a text, or a list of texts of any depth.
  pub items_are_texts : Items → Bool
  items_are_texts no_items = true
  items_are_texts (item d ds) = is_texts d && items_are_texts ds

-- Holds if each of some values is a text, or a list of texts of any depth.
abbrev pub are_texts : List Data → Bool
are_texts [] = true
are_texts (d ∷ ds) = is_texts d && are_texts ds

-- Returns the texts in a value, in order, with all lists flattened; a value that is neither a text nor a list has none.
abbrev mutual
  pub flat : Data → List (List ℕ)
  flat (text t) = t ∷ []
  flat (list ds) = flat_items ds
  flat (boolean b) = []
  flat (integer z) = []
  flat (dictionary es) = []
  flat (object o) = []

  -- Returns the texts in the items, in order, with all lists flattened.
  pub flat_items : Items → List (List ℕ)
  flat_items no_items = []
  flat_items (item d ds) = flat d ++ flat_items ds

-- Returns the texts in some values, in order, with all lists flattened.
abbrev pub flat_all : List Data → List (List ℕ)
flat_all [] = []
flat_all (d ∷ ds) = flat d ++ flat_all ds

-- Returns the items of a list, in order, with all nested lists flattened. Any other value is returned alone.
abbrev mutual
  pub opened : Data → List Data
  opened (list ds) = opened_items ds
  opened (boolean b) = boolean b ∷ []
  opened (integer z) = integer z ∷ []
  opened (text t) = text t ∷ []
  opened (dictionary es) = dictionary es ∷ []
  opened (object o) = object o ∷ []

  -- Returns the items, in order, with all nested lists flattened.
  pub opened_items : Items → List Data
  opened_items no_items = []
  opened_items (item d ds) = opened d ++ opened_items ds

-- Returns some values, in order, with all lists flattened.
abbrev pub opened_all : List Data → List Data
opened_all [] = []
opened_all (d ∷ ds) = opened d ++ opened_all ds
