-- Defines the invariant of a dictionary builder, and the depth of a dictionary after a value is replaced.
use Rattle.std.specs.Prelude.{◌≡◌, ◌<◌, ◌≤◌, ◌^◌, ℕ, max, nat_le, nat_lt, Option, Some, None, length, IfSome, if◌then◌else◌}
use Rattle.values.specs.Data.{AreDistinct}
use Rattle.values.specs.Weight.{entries_weight, entries_depth}
use Rattle.values.specs.View.{entries_of}
use Rattle.values.specs.declared.value.builder.DictionaryBuilder.TheInside.{Inside}

-- Holds if a builder has as many values as distinct keys, and stores their weight, and their depth if that is known.
pub record IsBuilder (inside : Inside) : Type 0 where
  -- There are as many values as keys.
  pub pairs : length inside.keys ≡ length inside.values.items
  -- No key occurs twice.
  pub distinct : AreDistinct (entries_of inside.keys inside.values.items)
  pub weight : inside.weight ≡ entries_weight (entries_of inside.keys inside.values.items)
  -- The stored depth, if there is one, is the depth of the deepest value.
  pub depth : IfSome inside.depth (λ d. d ≡ entries_depth (entries_of inside.keys inside.values.items))
  -- The weight is so small that adding another weight does not overflow.
  pub light : inside.weight < 2 ^ 126
  -- The stored depth, if there is one, is at most 64.
  pub shallow : IfSome inside.depth (λ d. d ≤ 64)

-- Returns the new depth of values of depth `depth`, after one of depth `old` is replaced by one of depth `new`. Returns none if `old` was
-- the deepest and `new` is less: then the values have to be counted again.
abbrev pub replaced_depth : ℕ → ℕ → ℕ → Option ℕ
replaced_depth old new depth = if nat_le old new then Some (max depth new) else if nat_lt old depth then Some depth else None
