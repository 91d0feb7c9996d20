-- Defines the pieces in which a value is printed.
use Rattle.std.specs.Prelude.{ℕ, Bool, true, false, List, [], ◌∷◌, ◌++◌, codes, if◌then◌else◌}
use Rattle.std.specs.Fmt.{signed_decimal}
use Rattle.values.specs.Data.{Data, boolean, integer, text, list, dictionary, object, Items, no_items, item, Entries, no_entries, entry}
use Rattle.values.specs.printing.Printed.{boolean_text}

-- Returns the text before an item: nothing before the first one, a comma and a space before any other.
abbrev pub separator : Bool → List ℕ
separator is_first = if is_first then [] else codes ", "

-- Returns the pieces of a value inside a list or a dictionary. For items and entries the closing bracket is included.
abbrev mutual
  pub inside_pieces : Data → List (List ℕ)
  inside_pieces (boolean b) = boolean_text b ∷ []
  inside_pieces (integer z) = signed_decimal z ∷ []
  inside_pieces (text t) = codes "'" ∷ t ∷ codes "'" ∷ []
  inside_pieces (list ds) = codes "[" ∷ item_pieces true ds
  inside_pieces (dictionary es) = codes "{" ∷ entry_pieces true es
  inside_pieces (object o) = [] ∷ []

  -- Returns the pieces of the items and the closing bracket. `is_first` says whether no item precedes them.
  pub item_pieces : Bool → Items → List (List ℕ)
  item_pieces is_first no_items = codes "]" ∷ []
  item_pieces is_first (item d ds) = separator is_first ∷ (inside_pieces d ++ item_pieces false ds)

  -- Returns the pieces of the entries and the closing brace. `is_first` says whether no entry precedes them.
  pub entry_pieces : Bool → Entries → List (List ℕ)
  entry_pieces is_first no_entries = codes "}" ∷ []
  entry_pieces is_first (entry k d es) =
      (separator is_first ++ codes "'") ∷ k ∷ codes "' : " ∷ (inside_pieces d ++ entry_pieces false es)

-- Returns the pieces of a value that is printed alone: a text is printed as it is, without quotes.
abbrev pub pieces : Data → List (List ℕ)
pieces (text t) = t ∷ []
pieces d = inside_pieces d

-- Returns the text that pieces make when they are joined.
abbrev pub whole : List (List ℕ) → List ℕ
whole [] = []
whole (p ∷ ps) = p ++ whole ps
