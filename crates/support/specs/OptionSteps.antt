-- Chains steps, each of which may have no result.
use Rattle.std.specs.Prelude.{Option, option_and_then}

infixl 10 ◌>>=◌
-- Runs a step after another, if that has a result.
abbrev pub ◌>>=◌ : {A B : Type 0} → Option A → (A → Option B) → Option B
first >>= next = option_and_then next first
