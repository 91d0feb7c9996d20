-- Defines maps in order of insertion.
use Rattle.std.specs.Prelude.{ℕ, zero, suc, Bool, List, [], ◌∷◌, if◌then◌else◌, Option, String, bytes_eq, string_bytes}
use Rattle.std.specs.Map.{lookup}

-- The keys of a map with their values, in order of insertion.
pub record EntryMap (K V : Type 0) : Type 0 where
  pub entries : List (K × V)

module _ {K V : Type 0} where
  -- Returns the entries with the i-th value replaced.
  abbrev pub set_value_at : List (K × V) → ℕ → V → List (K × V)
  set_value_at [] i w = []
  set_value_at (e ∷ es) zero w = (e.0, w) ∷ es
  set_value_at (e ∷ es) (suc i) w = e ∷ set_value_at es i w

module _ {K V : Type 0} (eq : K → K → Bool) where
  -- Returns the entries with a key set to a value. A key that is present keeps its place; a new key goes last.
  abbrev pub insert_entry : List (K × V) → K → V → List (K × V)
  insert_entry [] k v = (k, v) ∷ []
  insert_entry (e ∷ es) k v = if eq k e.0 then (e.0, v) ∷ es else e ∷ insert_entry es k v

-- Returns the value of the key with this text.
abbrev pub get_by_text : {A V : Type 0} → EntryMap (String A) V → List ℕ → Option V
get_by_text m text = lookup (λ k. bytes_eq text (string_bytes k)) m.entries
