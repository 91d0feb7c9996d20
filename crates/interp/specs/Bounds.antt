-- Defines the limits of an evaluation.
use Rattle.std.specs.Prelude.{ℕ, Bool}

-- The limits of a part of an evaluation: those of loops and of nested folders.
pub record Bounds : Type 0 where
  -- Whether a loop over more than 65,536 values is refused.
  pub few : Bool
  -- How many more folders may be nested.
  pub left : ℕ

-- Returns the limits with these two values, in the order of the fields.
abbrev pub bounds : Bool → ℕ → Bounds
bounds few left = record { few = few; left = left }
