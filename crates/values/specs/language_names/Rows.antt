-- Looks names up in tables of rows.
use denote.Ref.{Bor}
use Rattle.std.specs.Prelude.{ℕ, List, [], ◌∷◌, Option, Some, bytes_eq, if◌then◌else◌}

-- Returns the entry of the first row with this name, and `other` if no row has it.
abbrev pub named_or : {A : Type 0} → List (Bor (List ℕ) × A) → List ℕ → Option A → Option A
named_or [] name other = other
named_or (row ∷ rows) name other = if bytes_eq name row.0.now then Some row.1 else named_or rows name other
