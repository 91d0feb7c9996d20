-- Reads arguments with all lists flattened.
use Rattle.std.specs.Prelude.{ℕ, List, [], drop, Option, Some, None}
use Rattle.values.specs.Data.{Data}
use Rattle.values.specs.Flat.{opened, opened_all}
use Rattle.arguments.specs.Arguments.{ArgumentsData}
use Rattle.arguments.specs.Row.{value_named}

-- Returns a value with all lists flattened, and nothing if there is none.
abbrev pub leaves_in : Option Data → List Data
leaves_in None = []
leaves_in (Some d) = opened d

-- Returns the positional arguments from an index on, with all lists flattened.
abbrev pub leaves_from : ℕ → ArgumentsData → List Data
leaves_from i a = opened_all (drop i a.positional)

-- Returns the value of a keyword with all lists flattened, and nothing if the keyword is absent.
abbrev pub leaves_named : List ℕ → ArgumentsData → List Data
leaves_named name a = leaves_in (value_named name a.named)
